use Rattle.std.proofs.Common.{ap, arith, length}
use Rattle.std.proofs.lemmas.List.{length-drop}
use Rattle.std.specs.List.{enumerate_from}
use Rattle.ctf_check.specs.CheckedView.{dictionary_of, lists_of, tables_of}
use Rattle.ctf_symbols.proofs.Itemizing.{labels_at_first, last_label, next_label}
use Rattle.ctf_symbols.proofs.items.label_items.Goals as goal

pub labels-init : goal.labels-init
labels-init c =
    let d = c.args.dictionary.now in
    (rw c.in_ok-items.ensures.items (labels_at_first (lists_of d) d.faultless c.label_bytes-rest.result.now c.label_bytes-rest.ensures.bytes), omega (arith, c.label_bytes-rest.ensures.short))

pub labels-preserved : goal.labels-preserved
labels-preserved c =
    let d = c.args.dictionary.now in (
      rw (c.in_ok-push.ensures.items, c.u32_at.ensures) (next_label (tables_of d) (enumerate_from 0 (dictionary_of d).labels) _ c.labels.item _ _ c.labels-test.true c.behind_label-rest.ensures c.labels.invariant.0),
      omega (arith, ap length c.behind_label-rest.ensures, length-drop 8 c.labels.rest.now, c.labels.invariant.1, c.labels-test.true),
    )

pub returns : goal.returns
returns c =
    let d = c.args.dictionary.now in
    last_label (tables_of d) (enumerate_from 0 (dictionary_of d).labels) _ c.labels.item _ c.labels-test.false c.labels.invariant.0

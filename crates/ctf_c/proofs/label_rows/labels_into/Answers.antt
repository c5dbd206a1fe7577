use Rattle.std.proofs.Common.{◌+◌, ◌-◌, ◌<◌, Some, ap, length, ◌∙◌, arith}
use Rattle.ctf_check.specs.CheckedView.{dictionary_of, lists_of}
use Rattle.ctf_c.proofs.ListedRows.{label_of_own}
use Rattle.ctf_c.proofs.names.Filled.{all_filled, filled, unfilled}
use Rattle.ctf_c.specs.ItemRows.{TellsLabel, own_lists_of}
use Rattle.ctf_model.specs.format.Dictionary.{Dictionary}
use Rattle.ctf_model.specs.opened.Open.{own_in}
use Rattle.ctf_c.proofs.label_rows.labels_into.Goals as goal

pub loop-i-init : goal.loop-i-init
loop-i-init c = unfilled (TellsLabel (own_lists_of (Some c.args.dictionary.now))) (own_in c.args.dictionary.now).labels c.args.from c.args.rows.now

pub label_row-requires : goal.label_row-requires
label_row-requires c =
    let all = c.len-all.ensures.value ∙ ap (λ xs. length xs) c.labels.ensures in
    omega (arith, c.loop-i-test.true, c.min-count.ensures, c.saturating_sub-left.ensures, all)

pub loop-i-preserved : goal.loop-i-preserved
loop-i-preserved c =
    let d = c.args.dictionary.now in
    let all = c.len-all.ensures.value ∙ ap (λ xs. length xs) c.labels.ensures ∙ ap (λ (x : Dictionary). length x.labels) c.dictionary-own.ensures.own in
    let inside : c.args.from + c.loop-i.i < length (own_in d).labels = omega (arith, c.loop-i-test.true, c.min-count.ensures, c.saturating_sub-left.ensures, all) in
    filled (TellsLabel (own_lists_of (Some d))) (own_in d).labels c.args.from c.args.rows.now c.loop-i.rows c.loop-i.i c.label_row.result c.loop-i.invariant (omega (arith, c.loop-i-test.true, c.loop-i.auto.rows, c.min-count.ensures)) (omega (arith, inside)) (label_of_own d (lists_of c.dictionary-own.result) (dictionary_of c.dictionary-own.result) (c.args.from + c.loop-i.i) c.label_row.result c.dictionary-own.ensures.lists c.dictionary-own.ensures.own c.label_row.ensures)

pub returns-clause-count : goal.returns-clause-count
returns-clause-count c = c.len-all.ensures.value ∙ ap (λ xs. length xs) c.labels.ensures ∙ ap (λ (x : Dictionary). length x.labels) c.dictionary-own.ensures.own

pub returns-clause-filled : goal.returns-clause-filled
returns-clause-filled c =
    let d = c.args.dictionary.now in
    let all = c.len-all.ensures.value ∙ ap (λ xs. length xs) c.labels.ensures ∙ ap (λ (x : Dictionary). length x.labels) c.dictionary-own.ensures.own in
    all_filled (TellsLabel (own_lists_of (Some d))) (own_in d).labels c.args.from c.args.rows.now c.loop-i.rows c.loop-i.i c.saturating_sub-left.result c.min-count.result c.loop-i.invariant c.loop-i-test.false (c.saturating_sub-left.ensures ∙ ap (λ n. n - c.args.from) all) c.min-count.ensures

use Rattle.std.proofs.Common.{◌≡◌, ℕ, ◌<◌, ◌+◌, max, List, length, drop, ap, ◌∙◌, arith}
use Rattle.std.specs.Prelude.{slice_index}
use Rattle.ctf_model.specs.rules.Needs.{greatest_in_parent}
use Rattle.ctf_records.specs.ListedTypes.{listed_types}
use Rattle.ctf_records.specs.RecordView.{bytes_of}
use Rattle.ctf_check.proofs.Listed.{greatest_next}
use Rattle.ctf_check.proofs.needs.listed_needs.Goals as goal

pub loop-item-preserved : goal.loop-item-preserved
loop-item-preserved c =
    let ns = listed_types (bytes_of c.args.term.now) in
    let i = c.loop-item.item in
    let inside : i < length ns = omega (arith, c.loop-item-test.true, c.count-item-end.ensures, ap length c.reference_list-listed.ensures) in
    let so_far : max c.loop-item.greatest (greatest_in_parent (drop i ns)) ≡ greatest_in_parent ns = c.loop-item.invariant in
    let now : max c.greater-greatest.result (greatest_in_parent (drop (i + 1) ns)) ≡ greatest_in_parent ns = omega (arith, c.greater-greatest.ensures, c.in_parent.ensures, so_far, greatest_next ns i c.get.result.0 inside (c.get.ensures ∙ ap (λ (xs : List ℕ). slice_index xs i) c.reference_list-listed.ensures)) in
    now

use Rattle.std.proofs.Common.{◌≡◌, ℕ, ◌<◌, ◌+◌, max, List, length, drop, ap, ◌∙◌, arith}
use Rattle.std.specs.Prelude.{slice_index}
use Rattle.ctf_check.specs.Enough.{enough_among}
use Rattle.ctf_records.specs.ListedTypes.{listed_types}
use Rattle.ctf_records.specs.RecordView.{bytes_of}
use Rattle.ctf_check.proofs.Listed.{enough_next}
use Rattle.ctf_check.proofs.enough.enough_for_listed.Goals as goal

pub loop-item-preserved : goal.loop-item-preserved
loop-item-preserved c =
    let ns = listed_types (bytes_of c.args.term.now) in
    let i = c.loop-item.item in
    let inside : i < length ns = omega (arith, c.loop-item-test.true, c.count-item-end.ensures, ap length c.reference_list-listed.ensures) in
    let so_far : max c.loop-item.enough (enough_among c.args.child (drop i ns)) ≡ enough_among c.args.child ns = c.loop-item.invariant in
    let now : max c.more-enough.result (enough_among c.args.child (drop (i + 1) ns)) ≡ enough_among c.args.child ns = omega (arith, c.more-enough.ensures, c.enough_for.ensures, so_far, enough_next c.args.child ns i c.get.result.0 inside (c.get.ensures ∙ ap (λ (xs : List ℕ). slice_index xs i) c.reference_list-listed.ensures)) in
    now

use Rattle.std.proofs.Common.{◌≡◌, length, drop, replicate, ◌∙◌, rules}
use Rattle.std.proofs.Math.Seq.{take-append_seam}
use Rattle.ctf_layout.specs.Kept.{AreExtents}
use Rattle.ctf_layout.specs.SmallExtents.{extents_of_wide}
use Rattle.ctf_layout.proofs.Tables.{all_open, extents_of_full_table}
use Rattle.ctf_layout.proofs.kept.full_table.Goals as goal

pub fill-requires-clause-empty : goal.fill-requires-clause-empty
fill-requires-clause-empty g c =
    let same : c.as_mut_slice.result.now ≡ replicate c.count.result c.open.result = c.as_mut_slice.ensures.value ∙ c.in_ok-entries.ensures.items_if_clones_equal (λ y h. h) in
    λ j. rw same (all_open c.open.result c.count.result j c.open.ensures)

pub returns-clause-right : goal.returns-clause-right
returns-clause-right g c =
    let s = g.T.Types.space c.args.types.now in
    let count : length c.fill.new.table ≡ length s.own.terms = search rules in
    let written : c.in_ok-entries.entries.len ≡ length c.fill.new.table = search rules in
    let are : AreExtents s (extents_of_wide c.fill.new.table) = extents_of_full_table s c.fill.new.table count c.fill.ensures.whole in
    rw (written, take-append_seam c.fill.new.table (drop (length c.fill.new.table) c.in_ok-entries.entries.items)) are

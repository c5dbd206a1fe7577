use Rattle.std.proofs.Common.{◌≡◌, ℕ, ◌≤◌, ◌+◌, ap, sym, subst, refl, ◌∙◌, arith}
use Rattle.std.specs.Prelude.{slice_index_or, None, Ok, slice_index}
use Rattle.ctf_layout.specs.Bases.{IsByOne, members_read}
use Rattle.ctf_layout.specs.Extents.{amount}
use Rattle.std.proofs.lemmas.List.{length-map}
use Rattle.ctf_layout.specs.Kept.{IsByKept, IsKept, extent_kept, table_kept}
use Rattle.ctf_layout.specs.Table.{IsUnderway}
use Rattle.ctf_layout.specs.declared.bases.Basis.TheVariants.{Itself, One, Members}
use Rattle.ctf_layout.specs.declared.extents.Amount.TheVariants.{Known}
use Rattle.ctf_layout.specs.declared.extents.Extent.{Extent}
use Rattle.ctf_layout.specs.declared.extents.Target.TheVariants as stands_for
use Rattle.ctf_model.specs.spaces.TypePlaces.{own_number}
use Rattle.ctf_model.specs.rules.Chains.{by_value}
use Rattle.ctf_model.specs.figures.FigureLaws.{own_body, value_edges}
use Rattle.ctf_model.specs.figures.Figures.{align}
use Rattle.ctf_layout.proofs.HangsOn.{IsOwnAt, basis_read, itself_extent, one_extent, members_extent, greatest_step}
use Rattle.ctf_layout.proofs.Leading.{leads_within, one_found, step_found}
use Rattle.ctf_layout.proofs.Visits.{visited_before, begun, more_steps, visited_one, visited, kept_at_number}
use Rattle.ctf_layout.proofs.filling.+extents.Goals as goal
use Rattle.ctf_layout.proofs.filling.+extents.Goals.{visit-in-Some, visit-in-None, visit-in-Some-own_index, visit-in-None-own_index}

pub extent-returns-in-Some-clause-filled : goal.extent-returns-in-Some-clause-filled
extent-returns-in-Some-clause-filled g t c =
    visited_before (g.T.Types.space c.args.types.now) c.args.i (table_kept c.args.table.now) c.args.work.now c.requires.knows
    (rw c.in-Some.ensures.0 c.in-Some.ensures.1)

-- ---- extents that depend on no other type

pub visit-returns-in-Itself : goal.visit-returns-in-Itself
visit-returns-in-Itself g t c =
    let s = g.T.Types.space c.args.types.now in
    let at : IsOwnAt s c.args.budget c.args.i = record { short = c.requires.short; inside = c.requires.own; within = c.requires.within } in
    let b = basis_read s c.args.i c.basis.result (Itself c.in-Itself.size c.in-Itself.align) c.basis.ensures.basis c.in-Itself.is in
    let e : Extent = record { size = c.in-Itself.size; align = c.in-Itself.align; target = stands_for.Known c.number.result } in
    let none : slice_index_or (table_kept c.args.table.now) c.args.i None ≡ None = c.requires.open in
    let cost : c.args.work.now + 1 ≡ c.args.work.now + (1 + members_read (own_body s.own c.args.i)) = rw b.0 refl in
    rw (c.keep.ensures, c.kept_itself.ensures)
    (visited s c.args.budget c.args.i (table_kept c.args.table.now) (table_kept c.args.table.now) c.args.work.now (c.args.work.now + 1) c.basis.new.work e
    c.requires.within c.requires.own (omega (arith, length-map c.args.table.now extent_kept)) none cost (itself_extent s c.args.budget c.args.i e at b (ap Ok c.number.ensures))
    (begun s c.args.i (table_kept c.args.table.now) (c.args.work.now + 1) c.basis.new.work c.requires.knows c.basis.ensures.tick))

-- ---- one type

pub visit-overflow_sub-budget : goal.visit-overflow_sub-budget
visit-overflow_sub-budget g t c =
    let s = g.T.Types.space c.args.types.now in
    let b = basis_read s c.args.i c.basis.result (One c.in-One.number c.in-One.row) c.basis.ensures.basis c.in-One.is in
    let found = one_found s.own c.args.i c.in-One.number.0 c.in-Some.j b.1 (sym c.in-Some.is ∙ c.own_index.ensures) in
    (leads_within (value_edges s.own) c.args.i c.in-Some.j c.args.budget found.0 c.requires.within).0

pub visit-extent-one-requires : goal.visit-extent-one-requires
visit-extent-one-requires g t c κs within =
    let s = g.T.Types.space c.args.types.now in
    let b = basis_read s c.args.i c.basis.result (One c.in-One.number c.in-One.row) c.basis.ensures.basis c.in-One.is in
    let found = one_found s.own c.args.i c.in-One.number.0 c.in-Some.j b.1 (sym c.in-Some.is ∙ c.own_index.ensures) in
    let shorter = leads_within (value_edges s.own) c.args.i c.in-Some.j c.args.budget found.0 c.requires.within in
    let some : 1 ≤ c.args.budget = shorter.0 in
    (omega arith, (within.0, (within.1, (c.requires.same, (found.1, (omega arith, (shorter.1, c.requires.knows)))))))

pub visit-returns-after-own_index : goal.visit-returns-after-own_index
visit-returns-after-own_index g t c =
    let s = g.T.Types.space c.args.types.now in
    let at : IsOwnAt s c.args.budget c.args.i = record { short = c.requires.short; inside = c.requires.own; within = c.requires.within } in
    let b = basis_read s c.args.i c.basis.result (One c.in-One.number c.in-One.row) c.basis.ensures.basis c.in-One.is in
    let none : slice_index_or (table_kept c.args.table.now) c.args.i None ≡ None = c.requires.open in
    let cost : c.args.work.now + 1 ≡ c.args.work.now + (1 + members_read (own_body s.own c.args.i)) = rw b.0 refl in
    let start : IsUnderway s c.args.i (table_kept c.args.table.now) (table_kept c.args.table.now) (c.args.work.now + 1) c.basis.new.work = begun s c.args.i (table_kept c.args.table.now) (c.args.work.now + 1) c.basis.new.work c.requires.knows c.basis.ensures.tick in
    let both : IsKept s c.in-One.number.0 c.match-own_index.one × IsUnderway s c.args.i (table_kept c.args.table.now) (table_kept c.match-own_index.table) (c.args.work.now + 1) c.match-own_index.work = elim c.match-own_index.branch [
      | visit-in-Some w ↦
          let found = one_found s.own c.args.i c.in-One.number.0 w.in-Some.j b.1 (sym w.in-Some.is ∙ c.own_index.ensures) in (
            rw w.one-is (kept_at_number s c.in-One.number.0 w.in-Some.j (table_kept c.args.table.now) (table_kept w.extent-one.new.table) c.basis.new.work w.extent-one.new.work w.extent-one.result found.2 w.extent-one.ensures.filled w.extent-one.ensures.kept),
            rw (w.table-is, w.work-is) (visited_one s c.args.i w.in-Some.j (table_kept c.args.table.now) (table_kept c.args.table.now) (table_kept w.extent-one.new.table) (c.args.work.now + 1) c.basis.new.work w.extent-one.new.work start found.0 w.extent-one.ensures.filled),
          )
      | visit-in-None w ↦ (rw w.one-is w.kept_elsewhere-one.ensures, rw (w.table-is, w.work-is) start)
    ] in
    let is : IsByKept c.number-in-One.result.0 c.in-One.row both.0.extent c.kept_by_one.result = c.kept_by_one.ensures both.0.extent both.0.kept in
    let P : ℕ → Type 0 = λ n. IsByOne n c.in-One.row both.0.extent is.extent in
    let by : IsByOne (own_number s.own.child c.args.i) c.in-One.row both.0.extent is.extent = subst P c.number-in-One.ensures is.by in
    rw (c.keep-in-One.ensures, is.kept)
    (visited s c.args.budget c.args.i (table_kept c.args.table.now) (table_kept c.match-own_index.table) c.args.work.now (c.args.work.now + 1) c.match-own_index.work is.extent
    c.requires.within c.requires.own (omega (arith, length-map c.match-own_index.table extent_kept)) none cost (one_extent s c.args.budget c.args.i c.in-One.number c.in-One.row both.0.extent is.extent at b both.0.right by) both.1)

-- ---- members

pub visit-overflow_sub-budget-in-Some-own_index : goal.visit-overflow_sub-budget-in-Some-own_index
visit-overflow_sub-budget-in-Some-own_index g t c =
    let s = g.T.Types.space c.args.types.now in
    let b = basis_read s c.args.i c.basis.result (Members c.in-Members.size c.in-Members.read) c.basis.ensures.basis c.in-Members.is in
    let inside = b.1 in
    let found = step_found s.own c.args.i c.loop-k.k c.member_type-number.result.0 c.in-Some-own_index.j (omega arith) c.member_type-number.ensures.named (sym c.in-Some-own_index.is ∙ c.own_index-in-loop-k.ensures) in
    (leads_within (value_edges s.own) c.args.i c.in-Some-own_index.j c.args.budget found.0 c.requires.within).0

pub visit-member_type-number-requires-clause-member : goal.visit-member_type-number-requires-clause-member
visit-member_type-number-requires-clause-member g t c =
    let s = g.T.Types.space c.args.types.now in
    let b = basis_read s c.args.i c.basis.result (Members c.in-Members.size c.in-Members.read) c.basis.ensures.basis c.in-Members.is in
    let read_is = b.0 in
    omega arith

pub visit-extent-member-requires : goal.visit-extent-member-requires
visit-extent-member-requires g t c κs within =
    let s = g.T.Types.space c.args.types.now in
    let b = basis_read s c.args.i c.basis.result (Members c.in-Members.size c.in-Members.read) c.basis.ensures.basis c.in-Members.is in
    let inside = b.1 in
    let found = step_found s.own c.args.i c.loop-k.k c.member_type-number.result.0 c.in-Some-own_index.j (omega arith) c.member_type-number.ensures.named (sym c.in-Some-own_index.is ∙ c.own_index-in-loop-k.ensures) in
    let shorter = leads_within (value_edges s.own) c.args.i c.in-Some-own_index.j c.args.budget found.0 c.requires.within in
    let some : 1 ≤ c.args.budget = shorter.0 in
    (omega arith, (within.0, (within.1, (omega arith, (found.1, (omega arith, (shorter.1, c.loop-k.invariant.underway.knows)))))))

pub visit-loop-k-init : goal.visit-loop-k-init
visit-loop-k-init g t c =
    let s = g.T.Types.space c.args.types.now in
    record {
      greatest = refl;
      underway = begun s c.args.i (table_kept c.args.table.now) (c.args.work.now + 1 + 0) c.basis.new.work c.requires.knows (omega (arith, c.basis.ensures.tick));
    }

pub visit-loop-k-preserved : goal.visit-loop-k-preserved
visit-loop-k-preserved g t c =
    let s = g.T.Types.space c.args.types.now in
    let number = c.member_type-number.result.0 in
    let from = c.args.work.now + 1 + c.loop-k.k in
    let b = basis_read s c.args.i c.basis.result (Members c.in-Members.size c.in-Members.read) c.basis.ensures.basis c.in-Members.is in
    let inside = b.1 in
    let start : IsUnderway s c.args.i (table_kept c.args.table.now) (table_kept c.loop-k.table) (from + 1) c.member_type-number.new.work =
    more_steps s c.args.i (table_kept c.args.table.now) (table_kept c.loop-k.table) from c.loop-k.work c.member_type-number.new.work c.loop-k.invariant.underway c.member_type-number.ensures.tick in
    let both : IsKept s number c.match-own_index-2.member × IsUnderway s c.args.i (table_kept c.args.table.now) (table_kept c.match-own_index-2.table) (from + 1) c.match-own_index-2.work = elim c.match-own_index-2.branch [
      | visit-in-Some-own_index w ↦
          let found = step_found s.own c.args.i c.loop-k.k number w.in-Some-own_index.j (omega arith) c.member_type-number.ensures.named (sym w.in-Some-own_index.is ∙ c.own_index-in-loop-k.ensures) in (
            rw w.member-is (kept_at_number s number w.in-Some-own_index.j (table_kept c.loop-k.table) (table_kept w.extent-member.new.table) c.member_type-number.new.work w.extent-member.new.work w.extent-member.result found.2 w.extent-member.ensures.filled w.extent-member.ensures.kept),
            rw (w.table-is, w.work-is) (visited_one s c.args.i w.in-Some-own_index.j (table_kept c.args.table.now) (table_kept c.loop-k.table) (table_kept w.extent-member.new.table) (from + 1) c.member_type-number.new.work w.extent-member.new.work start found.0 w.extent-member.ensures.filled),
          )
      | visit-in-None-own_index w ↦ (rw w.member-is w.kept_elsewhere-member.ensures, rw (w.table-is, w.work-is) start)
    ] in
    let same : from + 1 ≡ c.args.work.now + 1 + (c.loop-k.k + 1) = omega arith in
    let aligned : amount c.alignment.result ≡ align s (slice_index (by_value (own_body s.own c.args.i)) c.loop-k.k) = ap amount (c.alignment.ensures both.0.extent both.0.kept) ∙ both.0.right.aligned ∙ ap (align s) c.member_type-number.ensures.named in
    record {
      greatest = c.greater-align.ensures ∙ rw (c.loop-k.invariant.greatest, aligned) (sym (greatest_step (align s) (by_value (own_body s.own c.args.i)) c.loop-k.k (omega arith)));
      underway = rw (sym same) both.1;
    }

pub visit-returns-after-loop-k : goal.visit-returns-after-loop-k
visit-returns-after-loop-k g t c =
    let s = g.T.Types.space c.args.types.now in
    let at : IsOwnAt s c.args.budget c.args.i = record { short = c.requires.short; inside = c.requires.own; within = c.requires.within } in
    let b = basis_read s c.args.i c.basis.result (Members c.in-Members.size c.in-Members.read) c.basis.ensures.basis c.in-Members.is in
    let none : slice_index_or (table_kept c.args.table.now) c.args.i None ≡ None = c.requires.open in
    let end : c.loop-k.k ≡ c.in-Members.read = omega arith in
    let cost : c.args.work.now + 1 + c.loop-k.k ≡ c.args.work.now + (1 + members_read (own_body s.own c.args.i)) = rw (b.0, end) (omega arith) in
    let e : Extent = record { size = Known c.in-Members.size; align = c.loop-k.align; target = stands_for.Known c.number-in-Members.result } in
    rw (c.keep-in-Members.ensures, c.kept_itself-in-Members.ensures)
    (visited s c.args.budget c.args.i (table_kept c.args.table.now) (table_kept c.loop-k.table) c.args.work.now (c.args.work.now + 1 + c.loop-k.k) c.loop-k.work e
    c.requires.within c.requires.own (omega (arith, length-map c.loop-k.table extent_kept)) none cost (members_extent s c.args.budget c.args.i c.in-Members.size c.in-Members.read c.loop-k.align (stands_for.Known c.number-in-Members.result) at b (rw (sym end) c.loop-k.invariant.greatest) (ap Ok c.number-in-Members.ensures)) c.loop-k.invariant.underway)

use Rattle.std.proofs.Common.{◌≡◌, ◌∙◌, [], Some, ap, arith, drop, subst, sym, take}
use Rattle.std.specs.Prelude.{flat_map}
use Rattle.ctf_check.specs.CheckedView.{lists_of}
use Rattle.ctf_check.specs.TypedView.{term_in}
use Rattle.ctf_model.specs.opened.Open.{space_in}
use Rattle.ctf_model.specs.spaces.Space.{space_type}
use Rattle.ctf_c.proofs.names.Lying.{behind_members, behind_refused, behind_unlisted, filled_with, inside_end, inside_members, inside_nothing, members_behind, row_deeper, told_one}
use Rattle.ctf_c.proofs.names.Parts.{filled_both, filled_early, filled_none, flat_more, flat_rest, one_there}
use Rattle.ctf_c.specs.Visiting.{FillsOn, TellsIn}
use Rattle.ctf_c.specs.names.MembersView.{members_at}
use Rattle.ctf_c.specs.names.Visits.{inside, members_of, visit_of, placed_with}
use Rattle.ctf_c.proofs.names.visiting.+visits.Goals as goal

-- ---- nested members

pub visit_inside-returns-then-left-eq0 : goal.visit_inside-returns-then-left-eq0
visit_inside-returns-then-left-eq0 t c = filled_none (TellsIn (Some c.args.dictionary.now)) _ c.args.count c.args.rows.now (inside_end c.args.left (space_in c.args.dictionary.now) c.args.row.offset c.args.row.depth c.args.row.tnum c.if-left-eq0.true) c.requires.room

pub visit_inside-returns-in_default : goal.visit_inside-returns-in_default
visit_inside-returns-in_default t c =
    let found = ap (λ s. space_type s c.args.row.stands_for) (sym c.space.ensures.space) ∙ sym c.in_default.ensures.found in
    let none : members_of (space_in c.args.dictionary.now) c.args.row.stands_for ≡ [] = behind_refused (space_type (space_in c.args.dictionary.now) c.args.row.stands_for) c.in_default.field-0 found in
    filled_none (TellsIn (Some c.args.dictionary.now)) _ c.args.count c.args.rows.now (inside_nothing c.args.left (space_in c.args.dictionary.now) c.args.row.offset c.args.row.depth c.args.row.tnum c.args.row.stands_for c.if-left-eq0.false c.requires.stands none) c.requires.room

pub visit_inside-returns-in_default-member_rows : goal.visit_inside-returns-in_default-member_rows
visit_inside-returns-in_default-member_rows t c =
    let found = ap (λ s. space_type s c.args.row.stands_for) (sym c.space.ensures.space) ∙ sym c.in-Ok.ensures.found in
    let none : members_of (space_in c.args.dictionary.now) c.args.row.stands_for ≡ [] = ap members_behind found ∙ behind_unlisted (term_in c.in-Ok.found) c.in_default-member_rows.ensures.members in
    filled_none (TellsIn (Some c.args.dictionary.now)) _ c.args.count c.args.rows.now (inside_nothing c.args.left (space_in c.args.dictionary.now) c.args.row.offset c.args.row.depth c.args.row.tnum c.args.row.stands_for c.if-left-eq0.false c.requires.stands none) c.requires.room

pub visit_inside-returns : goal.visit_inside-returns
visit_inside-returns t c =
    let found = ap (λ s. space_type s c.args.row.stands_for) (sym c.space.ensures.space) ∙ sym c.in-Ok.ensures.found in
    let listed : members_of (space_in c.args.dictionary.now) c.args.row.stands_for ≡ members_at c.in-Some.members = ap members_behind found ∙ behind_members (term_in c.in-Ok.found) (members_at c.in-Some.members) c.in-Some.ensures.members in
    let items = inside_members c.args.left (space_in c.args.dictionary.now) c.args.row.offset c.args.row.depth c.args.row.tnum c.args.row.stands_for (members_at c.in-Some.members) c.if-left-eq0.false c.requires.stands listed in
    subst (λ xs. FillsOn (TellsIn (Some c.args.dictionary.now)) xs c.args.count c.visit_members.result c.args.rows.now c.visit_members.new.rows) (sym items) c.visit_members.ensures

-- ---- members

pub visit_members-returns-then-count-rows : goal.visit_members-returns-then-count-rows
visit_members-returns-then-count-rows t c =
    let each = placed_with (inside c.args.holder.now.left (space_in c.args.dictionary.now)) c.args.holder.now.row.stands_for c.args.holder.now.row.offset c.args.holder.now.row.depth in
    let done = flat_map each (take c.loop-index.index (members_at c.args.holder.now.members)) in
    let rest = flat_map each (drop c.loop-index.index (members_at c.args.holder.now.members)) in
    subst (λ xs. FillsOn (TellsIn (Some c.args.dictionary.now)) xs c.args.count c.loop-index.count c.args.rows.now c.loop-index.rows) (sym (flat_rest each (members_at c.args.holder.now.members) c.loop-index.index)) (filled_early (TellsIn (Some c.args.dictionary.now)) done rest c.args.count c.loop-index.count c.args.rows.now c.loop-index.rows c.requires.room c.loop-index.invariant c.if-count-rows.true)

pub visit_members-visit_member-count-requires : goal.visit_members-visit_member-count-requires
visit_members-visit_member-count-requires t c =
    let inside_list = rw c.len-index-end.ensures at c.loop-index-test.true in
    let deeper = row_deeper (Some (lists_of c.args.holder.now.dictionary)) c.args.holder.now.row.stands_for c.args.holder.now.row.offset c.args.holder.now.row.depth c.visit_row-row.result (members_at c.args.holder.now.members) c.loop-index.index inside_list c.visit_row-row.ensures.told in
    (omega (arith, c.decreases), (omega (arith, c.if-count-rows.false), (omega (arith, deeper, c.requires.deep), c.visit_row-row.ensures.stands)))

pub visit_members-loop-index-preserved : goal.visit_members-loop-index-preserved
visit_members-loop-index-preserved t c =
    let each = placed_with (inside c.args.holder.now.left (space_in c.args.dictionary.now)) c.args.holder.now.row.stands_for c.args.holder.now.row.offset c.args.holder.now.row.depth in
    let inside_list = rw c.len-index-end.ensures at c.loop-index-test.true in
    let one = one_there (members_at c.args.holder.now.members) c.loop-index.index inside_list in
    let tells = told_one (Some (lists_of c.args.holder.now.dictionary)) (visit_of c.args.holder.now.row.stands_for c.args.holder.now.row.offset c.args.holder.now.row.depth) c.visit_row-row.result _ one.0 one.1 c.visit_row-row.ensures.told in
    let more = filled_with c.args.dictionary.now c.args.holder.now.left c.args.holder.now.row.stands_for c.args.holder.now.row.offset c.args.holder.now.row.depth c.visit_row-row.result (lists_of c.args.holder.now.dictionary) c.requires.lists one.0 c.loop-index.count c.visit_member-count.result c.loop-index.rows c.visit_member-count.new.rows (omega (arith, c.if-count-rows.false)) tells c.visit_row-row.ensures.stands c.visit_member-count.ensures in
    let all = filled_both (TellsIn (Some c.args.dictionary.now)) (flat_map each (take c.loop-index.index (members_at c.args.holder.now.members))) (each one.0) c.args.count c.loop-index.count c.visit_member-count.result c.args.rows.now c.loop-index.rows c.visit_member-count.new.rows c.requires.room c.loop-index.invariant more in
    subst (λ xs. FillsOn (TellsIn (Some c.args.dictionary.now)) xs c.args.count c.visit_member-count.result c.args.rows.now c.visit_member-count.new.rows) (sym (flat_more each (members_at c.args.holder.now.members) c.loop-index.index one.0 one.1)) all

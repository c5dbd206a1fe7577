use Rattle.std.proofs.Common.{◌∙◌, Ok, Some, ap, arith, subst}
use Rattle.ctf_check.specs.CheckedView.{lists_of}
use Rattle.ctf_check.specs.TypedView.{dictionary_in, term_in}
use Rattle.ctf_model.specs.opened.Open.{space_in}
use Rattle.ctf_model.specs.spaces.Space.{space_type}
use Rattle.ctf_c.proofs.names.Lying.{if_found, is_there, lists_are, most_inside, outermost_told, visits}
use Rattle.ctf_c.proofs.names.Parts.{filled_member}
use Rattle.ctf_c.specs.Visiting.{FillsOn, TellsIn}
use Rattle.ctf_c.specs.declared.visits.GivenVisitRow.{GivenVisitRow}
use Rattle.ctf_c.specs.names.Visits.{inside, outermost, visits_of}
use Rattle.ctf_model.specs.values.Values.{most_values}
use Rattle.ctf_c.proofs.visits.visit.Goals as goal

pub returns : goal.returns
returns c =
    let d = c.args.dictionary.now in
    let x = c.in_ok-held_type.field-0 in
    let found = c.in_ok-held_type.ensures.found ∙ ap (λ s. space_type s c.args.t.0) c.space.ensures.space in
    let there = if_found (term_in x) (space_type (space_in d) c.args.t.0) (Ok (visits_of (space_in d) c.args.t.0)) (is_there x.dictionary x.source x.own) found in
    let lists = lists_are d c.args.t.0 _ _ _ (lists_of (dictionary_in x)) c.space.ensures.space c.space.ensures.lists c.space.ensures.parent c.in_ok-held_type.ensures.lists in
    let row : GivenVisitRow = record { offset = 0; name_at = 0; name_list = 2; depth = 0; tnum = c.args.t.0; holder = c.args.t.0; stands_for = c.stands_for-holder.result.0 } in
    let rest = subst (λ xs. FillsOn (TellsIn (Some d)) xs 1 c.visit_inside.result c.put.new.rows c.visit_inside.new.rows) (most_inside (space_in d) c.args.t.0) c.visit_inside.ensures in
    let placed = subst (λ old. FillsOn (TellsIn (Some d)) (inside most_values (space_in d) 0 0 c.args.t.0) 1 c.visit_inside.result old c.visit_inside.new.rows) c.put.ensures rest in
    let all = filled_member (TellsIn (Some d)) (outermost c.args.t.0) (inside most_values (space_in d) 0 0 c.args.t.0) row 0 c.visit_inside.result c.args.rows.now c.visit_inside.new.rows (omega arith) (outermost_told _ (lists_of (dictionary_in x)) c.args.t.0 c.stands_for-holder.result.0 lists, c.stands_for-holder.ensures) placed in
    visits (TellsIn (Some d)) (visits_of (space_in d) c.args.t.0) (space_type (space_in d) c.args.t.0) c.visit_inside.result c.args.rows.now c.visit_inside.new.rows there all

use Rattle.std.proofs.Common.{◌*◌, ◌+◌, take, Some}
use Rattle.std.specs.Prelude.{flat_map}
use Rattle.ctf_model.specs.opened.Open.{space_in}
use Rattle.ctf_c.specs.Visiting.{FillsOn, TellsIn}
use Rattle.ctf_c.specs.names.MembersView.{members_at}
use Rattle.ctf_c.specs.names.Visits.{inside, placed_with}
use Rattle.ctf_c.proofs.names.visiting.+visits.Given as goal

abbrev pub decreases-visit_inside : goal.decreases-visit_inside
decreases-visit_inside l = 3 * l.left

abbrev pub decreases-visit_member : goal.decreases-visit_member
decreases-visit_member l = 3 * l.left + 1

abbrev pub decreases-visit_members : goal.decreases-visit_members
decreases-visit_members l = 3 * l.holder.now.left + 2

abbrev pub invariant-visit_members-loop-index : goal.invariant-visit_members-loop-index
invariant-visit_members-loop-index l =
    FillsOn (TellsIn (Some l.dictionary)) (flat_map (placed_with (inside l.holder.left (space_in l.dictionary)) l.holder.row.stands_for l.holder.row.offset l.holder.row.depth) (take l.index (members_at l.holder.members))) l.fn.count l.count l.fn.rows l.rows

use Rattle.std.proofs.Common.{◌≡◌, false, map, take}
use Rattle.std.specs.List.{list_any}
use Rattle.ctf_draft.specs.Stating.{begins_behind}
use Rattle.ctf_draft.specs.TypeView.{member_of}
use Rattle.ctf_draft.proofs.stating.any_behind.Given as goal

abbrev pub invariant-loop-member : goal.invariant-loop-member
invariant-loop-member l = list_any (begins_behind l.size) (map member_of (take l.member-index l.members)) ≡ false

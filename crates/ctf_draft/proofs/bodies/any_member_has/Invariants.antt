use Rattle.std.proofs.Common.{◌≡◌, false, map, take}
use Rattle.std.specs.List.{list_any}
use Rattle.std.specs.Str.{bytes_eq}
use Rattle.ctf_draft.proofs.bodies.any_member_has.Given as goal

abbrev pub invariant-loop-member : goal.invariant-loop-member
invariant-loop-member l = list_any (bytes_eq l.name) (map (λ x. x.name) (take l.member-index l.members)) ≡ false

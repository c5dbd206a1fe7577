use Rattle.std.proofs.Common.{◌≡◌, true, map, take}
use Rattle.std.specs.List.{AllByRecursion}
use Rattle.ctf_writer.specs.Endings.{is_marked}
use Rattle.ctf_writer.proofs.strings.endings_of.Given as goal

abbrev pub invariant-loop-name : goal.invariant-loop-name
invariant-loop-name l = AllByRecursion (λ name. is_marked l.endings name ≡ true) (map (λ name. name.now) (take l.name-index l.names))

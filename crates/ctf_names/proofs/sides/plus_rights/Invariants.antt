use Rattle.std.proofs.Common.{◌≡◌, ◌+◌, length, take, min}
use Rattle.std.specs.List.{flat_map}
use Rattle.ctf_names.specs.Marks.{right}
use Rattle.ctf_names.proofs.sides.plus_rights.Given as goal

abbrev pub invariant-loop-mark : goal.invariant-loop-mark
invariant-loop-mark l = l.len ≡ min (l.start + length (flat_map right (take l.mark-index l.marks))) 65537

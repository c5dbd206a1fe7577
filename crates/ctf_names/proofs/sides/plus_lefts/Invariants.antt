use Rattle.std.proofs.Common.{◌≡◌, ◌+◌, length, take, min}
use Rattle.std.specs.List.{flat_map}
use Rattle.ctf_names.specs.Marks.{text_before}
use Rattle.ctf_names.proofs.sides.plus_lefts.Given as goal

abbrev pub invariant-loop-mark : goal.invariant-loop-mark
invariant-loop-mark l = l.len ≡ min (l.start + length (flat_map text_before (take l.mark-index l.marks))) 65537

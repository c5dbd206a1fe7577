use Rattle.std.proofs.Common.{◌≡◌, drop}
use Rattle.ctf_print.specs.Placing.{first_with}
use Rattle.ctf_print.proofs.places.first_of.Given as goal

abbrev pub invariant-loop-i : goal.invariant-loop-i
invariant-loop-i l = first_with l.value 0 l.enumerators ≡ first_with l.value l.i (drop l.i l.enumerators)

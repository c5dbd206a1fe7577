use Rattle.std.proofs.Common.{◌≡◌, ◌≤◌, ℤ, length, drop}
use Rattle.std.specs.BTreeMap.{get}
use Rattle.std.specs.Ordering.{int_cmp}
use Rattle.ctf_print.specs.Placing.{first_with}
use Rattle.ctf_print.proofs.places.FirstByValue.of.Given as goal

abbrev pub invariant-loop-left : goal.invariant-loop-left
invariant-loop-left l = record {
  inside : l.left ≤ length l.enumerators;
  known : (v : ℤ) → get int_cmp l.first v ≡ first_with v l.left (drop l.left l.enumerators);
}

abbrev pub decreases-loop-left : goal.decreases-loop-left
decreases-loop-left l = l.left

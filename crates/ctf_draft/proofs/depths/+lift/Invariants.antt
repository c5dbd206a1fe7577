use Rattle.std.proofs.Common.{◌≡◌, ◌≤◌, ◌+◌, length, take}
use Rattle.std.specs.Prelude.{min}
use Rattle.std.specs.List.{AllByRecursion}
use Rattle.ctf_draft.specs.Bounding.{IsLifted, above_of, bound}
use Rattle.ctf_draft.proofs.depths.+lift.Given as goal

abbrev pub decreases-lift : goal.decreases-lift
decreases-lift l = l.rises

abbrev pub invariant-loop-k : goal.invariant-loop-k
invariant-loop-k l = record {
  len : length l.bounds ≡ length l.initial.bounds;
  lifted : IsLifted l.first (above_of l.above) l.initial.bounds l.bounds;
  done : AllByRecursion (λ p. min 513 (l.value + 1) ≤ bound l.bounds p) (take l.k l.holders);
}

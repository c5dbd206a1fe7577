use Rattle.std.proofs.Common.{take}
use Rattle.ctf_order.specs.Naming.{naming}
use Rattle.ctf_order.proofs.Lent.{SoFar}
use Rattle.ctf_order.proofs.lending.ranked_within.Given as goal

abbrev pub invariant-loop-number : goal.invariant-loop-number
invariant-loop-number l = SoFar (naming l.texts) (take l.number l.items) l.ranked.items l.before

use Rattle.std.proofs.Common.{arith}
use Rattle.std.proofs.lemmas.Grind.{common_steps}
use Rattle.std.proofs.lemmas.Fn.{always_returns_same}
use Rattle.ctf_names.specs.Pointers.{pointer_precedes}
use Rattle.ctf_names.proofs.Pointing.{pointers_rank}
use Rattle.ctf_names.proofs.pointers.arrange.Goals as goal

pub returns-clause-sorted : goal.returns-clause-sorted
returns-clause-sorted c = c.sort_unstable_by.ensures.sorted pointer_precedes pointers_rank (always_returns_same _ _ _ (λ a r g h. grind (arith, common_steps)))

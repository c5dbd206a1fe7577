use Rattle.std.proofs.Common.{arith}
use Rattle.std.proofs.lemmas.Grind.{common_steps}
use Rattle.std.proofs.lemmas.Fn.{always_returns_same}
use Rattle.ctf_order.specs.Lending.{goes_before}
use Rattle.ctf_order.proofs.Ranks.{kept_ranks}
use Rattle.ctf_order.proofs.lending.arrange.Goals as goal

pub returns-clause-sorted : goal.returns-clause-sorted
returns-clause-sorted c = c.sort_unstable_by.ensures.sorted goes_before kept_ranks (always_returns_same _ _ _ (λ a r g h. grind (arith, common_steps)))

use Rattle.std.proofs.Common.{refl}
use Rattle.ctf_model.specs.format.Dictionary.{denoted}
use Rattle.ctf_check.proofs.checked.Checked.lists.Goals as goal

pub returns-clause-denotes : goal.returns-clause-denotes
unfolding denoted
returns-clause-denotes c = rw c.args.self.now.faultless refl

use Rattle.ctf_laws.proofs.One.{right_is_one}
use Rattle.ctf_laws.proofs.good.right_is_one.Goals as goal

pub returns : goal.returns
returns c = right_is_one

use Rattle.ctf_model.proofs.Judge.{least_fault}
use Rattle.ctf_model.proofs.laws.first_fault_is_the_least.Goals as goal

pub returns : goal.returns
returns c = least_fault

use Rattle.std.proofs.Common.{arith}
use Rattle.ctf_model.proofs.Nameless.{nameless}
use Rattle.ctf_model.proofs.faults.fault_name.Goals as goal

pub returns-in_default : goal.returns-in_default
returns-in_default c = nameless c.args.code (omega arith)

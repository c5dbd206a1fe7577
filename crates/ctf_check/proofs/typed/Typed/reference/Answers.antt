use Rattle.ctf_check.proofs.Described.{reference_said}
use Rattle.ctf_check.proofs.typed.Typed.reference.Goals as goal

pub returns : goal.returns
returns c = reference_said c.args.self.now.dictionary c.args.self.now.source _ c.args.self.now.own c.reference.ensures

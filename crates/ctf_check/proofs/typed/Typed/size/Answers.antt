use Rattle.ctf_check.proofs.Described.{size_said}
use Rattle.ctf_check.proofs.typed.Typed.size.Goals as goal

pub returns : goal.returns
returns c = size_said c.args.self.now.dictionary c.args.self.now.source _ c.args.self.now.own c.size.ensures

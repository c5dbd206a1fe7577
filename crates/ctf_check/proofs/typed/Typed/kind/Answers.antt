use Rattle.ctf_check.proofs.Described.{kind_said}
use Rattle.ctf_check.proofs.typed.Typed.kind.Goals as goal

pub returns : goal.returns
returns c = kind_said c.args.self.now.dictionary c.args.self.now.source _ c.args.self.now.own c.kind.ensures

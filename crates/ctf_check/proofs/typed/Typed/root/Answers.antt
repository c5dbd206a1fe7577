use Rattle.ctf_check.proofs.Described.{root_said}
use Rattle.ctf_check.proofs.typed.Typed.root.Goals as goal

pub returns : goal.returns
returns c = rw c.root.ensures (root_said c.args.self.now.dictionary c.args.self.now.source c.args.self.now.own)

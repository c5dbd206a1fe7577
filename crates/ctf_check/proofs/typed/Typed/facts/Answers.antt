use Rattle.ctf_check.proofs.Described.{all_described}
use Rattle.ctf_check.proofs.typed.Typed.facts.Goals as goal

pub returns : goal.returns
returns c = all_described c.args.self.now.dictionary c.args.self.now.source _ c.args.self.now.own c.name.ensures c.root.ensures c.shape.ensures

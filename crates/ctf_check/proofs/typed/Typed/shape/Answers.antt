use Rattle.ctf_check.proofs.Described.{described}
use Rattle.ctf_check.proofs.typed.Typed.shape.Goals as goal

pub returns : goal.returns
returns c = described c.args.self.now.dictionary c.args.self.now.source _ c.args.self.now.own c.kind.ensures c.size.ensures c.reference.ensures c.tag.ensures c.variant.ensures

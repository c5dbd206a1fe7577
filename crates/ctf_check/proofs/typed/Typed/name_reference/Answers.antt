use Rattle.ctf_check.proofs.Described.{referred_name}
use Rattle.ctf_check.proofs.typed.Typed.name_reference.Goals as goal

pub returns : goal.returns
returns c = rw c.name_ref.ensures (referred_name c.args.self.now.dictionary c.args.self.now.source c.args.self.now.own)

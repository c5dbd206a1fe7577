use Rattle.ctf_check.proofs.Described.{value_number, value_typed}
use Rattle.ctf_check.proofs.typed.Typed.value_type.Goals as goal

pub place_number-requires : goal.place_number-requires
place_number-requires c = value_number c.args.self.now.dictionary c.args.self.now.source c.args.item c.args.self.now.own c.requires

pub returns : goal.returns
returns c = value_typed c.args.self.now.dictionary c.args.self.now.source c.args.item _ c.args.self.now.own c.place_number.ensures

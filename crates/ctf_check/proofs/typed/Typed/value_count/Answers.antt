use Rattle.ctf_check.proofs.Described.{values_counted}
use Rattle.ctf_check.proofs.typed.Typed.value_count.Goals as goal

pub returns : goal.returns
returns c = values_counted c.args.self.now.dictionary c.args.self.now.source _ c.args.self.now.own c.place_count.ensures

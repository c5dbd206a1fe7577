use Rattle.std.proofs.Common.{◌∙◌}
use Rattle.ctf_writer.proofs.Placing.{position_now}
use Rattle.ctf_writer.proofs.used.UsedNames.index.Goals as goal

pub returns : goal.returns
returns c = c.get_index_of.ensures.index ∙ position_now c.args.name.now c.args.self.now.names.keys

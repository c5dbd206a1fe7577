use Rattle.std.proofs.Common.{arith}
use Rattle.ctf_model.specs.opened.Open.{space_in}
use Rattle.ctf_open.proofs.open_dictionary.OpenDictionary.align.Goals as goal

pub returns : goal.returns
returns c = c.align.ensures.answered (space_in c.args.self.now) c.tables.ensures.layout (omega (arith, c.if-t-eq0.false))

use Rattle.std.proofs.Common.{ap}
use Rattle.ctf_model.specs.writing.Written.{written}
use Rattle.ctf_writer.proofs.Made.{held_stays}
use Rattle.ctf_writer.proofs.laws.updates_write_the_same.Goals as goal

pub returns : goal.returns
returns c = λ d. ap written (held_stays d)

use Rattle.ctf_names.specs.Bases.{base_text}
use Rattle.ctf_names.proofs.Lengths.{base_is}
use Rattle.ctf_names.proofs.name_lengths.of_base.Goals as goal

pub returns : goal.returns
returns c = base_is (base_text c.args.base) c.plus_base.result c.plus_base.ensures

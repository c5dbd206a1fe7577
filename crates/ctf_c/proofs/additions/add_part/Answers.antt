use Rattle.std.proofs.Common.{sym}
use Rattle.ctf_model.specs.opened.Steps.{enlarge}
use Rattle.ctf_open.specs.PartView.{part_in}
use Rattle.ctf_c.proofs.NotOpen.{no_step}
use Rattle.ctf_c.proofs.additions.add_part.Goals as goal

pub returns-in_default : goal.returns-in_default
returns-in_default c = no_step (enlarge (part_in c.args.part)) _ _ _ (sym c.in_default.ensures.value) (sym c.in_default.ensures.value)

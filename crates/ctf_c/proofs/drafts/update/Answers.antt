use Rattle.std.proofs.Common.{sym}
use Rattle.ctf_model.specs.opened.Steps.{step_update}
use Rattle.ctf_c.proofs.NotOpen.{no_step_at}
use Rattle.ctf_c.proofs.drafts.update.Goals as goal

pub returns-in_default : goal.returns-in_default
returns-in_default c = no_step_at step_update _ _ _ _ (sym c.in_default.ensures.value) (sym c.in_default.ensures.value)

use Rattle.std.proofs.Common.{sym}
use Rattle.ctf_model.specs.opened.Steps.{type_added}
use Rattle.ctf_draft.specs.NewView.{new_body_of}
use Rattle.ctf_c.proofs.NotOpen.{no_step}
use Rattle.ctf_c.proofs.additions.add.Goals as goal

pub returns-in_default : goal.returns-in_default
returns-in_default c = no_step (type_added (record { name = c.args.name.now; root = c.args.root; body = new_body_of c.args.body })) _ _ _ (sym c.in_default.ensures.value) (sym c.in_default.ensures.value)

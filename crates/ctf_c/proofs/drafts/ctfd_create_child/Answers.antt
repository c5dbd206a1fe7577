use Rattle.std.proofs.Common.{sym, ◌∙◌}
use Rattle.ctf_c.proofs.NotOpen.{no_child}
use Rattle.ctf_c.proofs.drafts.ctfd_create_child.Goals as goal

pub returns-in_default-clause-answer : goal.returns-in_default-clause-answer
returns-in_default-clause-answer c = no_child _ _ _ c.args.parname.now c.args.parlabel.now (sym (c.in_default.ensures ∙ c.option_box.ensures.same))

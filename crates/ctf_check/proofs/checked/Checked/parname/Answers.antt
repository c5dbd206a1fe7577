use Rattle.std.proofs.Common.{◌∙◌, ap}
use Rattle.ctf_model.specs.format.Dictionary.{text_or_empty, said_by}
use Rattle.ctf_check.specs.CheckedView.{tables_of}
use Rattle.ctf_check.proofs.checked.Checked.parname.Goals as goal

pub returns : goal.returns
unfolding said_by
returns c = rw (c.header.ensures) at (c.name_at.ensures ∙ ap (text_or_empty (tables_of c.args.self.now)) c.parname.ensures)

use Rattle.std.proofs.Common.{Option, subst}
use Rattle.ctf_c.specs.Drafting.{Steps}
use Rattle.ctf_c.specs.Given.{ask}
use Rattle.ctf_model.specs.opened.Open.{Open}
use Rattle.ctf_model.specs.opened.Steps.{label_added}
use Rattle.ctf_c.proofs.additions.ctfd_add_label.Goals as goal

pub returns : goal.returns
returns c = (c.add_part.new.out, subst (λ (o : Option Open). Steps (ask o (label_added (record { name = c.args.name.now; last = c.args.last }))) c.add_part.result 0 c.add_part.new.out o c.add_part.new.dictionary.held.value) c.option_box.ensures.same c.add_part.ensures)

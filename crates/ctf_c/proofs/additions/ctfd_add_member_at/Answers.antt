use Rattle.std.proofs.Common.{Option, subst}
use Rattle.ctf_c.specs.Drafting.{Steps, member_added_at}
use Rattle.ctf_c.specs.Given.{ask}
use Rattle.ctf_model.specs.opened.Open.{Open}
use Rattle.ctf_c.proofs.additions.ctfd_add_member_at.Goals as goal

pub returns : goal.returns
returns c = (c.add_part.new.out, subst (λ (o : Option Open). Steps (ask o (member_added_at c.args.t (record { name = c.args.name.now; tnum = c.args.tnum; offset = c.args.offset }) c.args.size)) c.add_part.result 0 c.add_part.new.out o c.add_part.new.dictionary.held.value) c.option_box.ensures.same c.add_part.ensures)

use Rattle.ctf_sections.proofs.Texts.{all_before, front_before}
use Rattle.ctf_sections.proofs.ends.up_to_zero.Goals as goal

pub returns-in-Some : goal.returns-in-Some
returns-in-Some c = front_before c.args.bytes.now c.in-Some.len c.in-Some.ensures

pub returns-in-None : goal.returns-in-None
returns-in-None c = all_before c.args.bytes.now c.in-None.ensures

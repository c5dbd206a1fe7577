use Rattle.std.proofs.Common.{arith}
use Rattle.ctf_lines.proofs.Pushed.{short_spelled}
use Rattle.ctf_lines.proofs.spelling.spells_itself.Goals as goal

pub returns : goal.returns
returns c is = short_spelled c.args.text.now (grind arith) (c.are_plain.ensures is)

use Rattle.ctf_lines.proofs.Numbered.{ask_or-none}
use Rattle.ctf_lines.proofs.reading.RequestFromLine.read.Goals as goal

pub returns-clause-ok : goal.returns-clause-ok
returns-clause-ok c = rw (← ask_or-none c.args.line.now) c.read_or.ensures.ok

pub returns-clause-refused : goal.returns-clause-refused
returns-clause-refused c = rw (← ask_or-none c.args.line.now) c.read_or.ensures.refused

pub returns-clause-long : goal.returns-clause-long
returns-clause-long c = rw (← ask_or-none c.args.line.now) c.read_or.ensures.long

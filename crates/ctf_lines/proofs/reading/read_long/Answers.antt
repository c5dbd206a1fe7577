use Rattle.ctf_lines.proofs.Numbered.{ask_or-long}
use Rattle.ctf_lines.proofs.reading.read_long.Goals as goal

pub returns-then-line-gt-LONGEST_LINE-clause-refused : goal.returns-then-line-gt-LONGEST_LINE-clause-refused
returns-then-line-gt-LONGEST_LINE-clause-refused c = λ ne. rw c.placeless.ensures (ask_or-long c.args.given c.args.line.now c.if-line-gt-LONGEST_LINE.true)

pub returns-then-line-gt-LONGEST_LINE-clause-long : goal.returns-then-line-gt-LONGEST_LINE-clause-long
returns-then-line-gt-LONGEST_LINE-clause-long c = λ late. rw c.placeless.ensures (ask_or-long c.args.given c.args.line.now c.if-line-gt-LONGEST_LINE.true)

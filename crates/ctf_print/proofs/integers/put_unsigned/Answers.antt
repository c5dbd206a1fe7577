use Rattle.std.proofs.lemmas.Fmt.{decimal_digit}
use Rattle.ctf_print.proofs.integers.put_unsigned.Goals as goal

pub returns-then-number-lt10-clause-ok : goal.returns-then-number-lt10-clause-ok
returns-then-number-lt10-clause-ok c = rw (decimal_digit c.args.number c.if-number-lt10.true) c.put_short.ensures.ok

pub returns-then-number-lt10-clause-err : goal.returns-then-number-lt10-clause-err
returns-then-number-lt10-clause-err c = rw (decimal_digit c.args.number c.if-number-lt10.true) c.put_short.ensures.err

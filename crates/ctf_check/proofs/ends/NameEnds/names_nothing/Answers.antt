use Rattle.std.proofs.Common.{sym, arith}
use Rattle.ctf_check.specs.EndsView.{tables_in}
use Rattle.ctf_check.proofs.PlainNames.{plain_named}
use Rattle.ctf_check.proofs.ends.NameEnds.names_nothing.Goals as goal

pub returns-then-reference-self : goal.returns-then-reference-self
returns-then-reference-self c =
    let n = c.args.self in
    sym (plain_named (tables_in n) n.internal_end c.args.reference n.internal (omega arith) (omega arith))

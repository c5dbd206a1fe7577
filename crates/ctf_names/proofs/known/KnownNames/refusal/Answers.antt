use Rattle.std.proofs.Common.{arith}
use Rattle.ctf_names.proofs.Findings.{no_name}
use Rattle.ctf_names.proofs.known.KnownNames.refusal.Goals as goal

pub returns-clause-right : goal.returns-clause-right
returns-clause-right c =
    no_name c.args.self.now c.args.number.0 c.in-Round.next.0 c.in-Round.layer c.in-Some.inside c.refused.result (rw c.in-Round.is at c.step.ensures) c.in-Some.ensures.right (omega (arith, c.if-inside-gt-MOST_LAYERS.false)) c.refused.ensures

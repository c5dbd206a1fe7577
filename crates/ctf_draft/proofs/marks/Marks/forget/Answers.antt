use Rattle.std.proofs.Common.{arith}
use Rattle.ctf_draft.proofs.Rounds.{none_said, within_later}
use Rattle.ctf_draft.proofs.marks.Marks.forget.Goals as goal

pub invariant_of-self : goal.invariant_of-self
invariant_of-self c = (omega (arith, c.in-Some.ensures), within_later c.self.inside.round c.in-Some.round c.self.inside.marks.items (omega (arith, c.in-Some.ensures)) c.self.invariant.1)

pub returns-in-Some : goal.returns-in-Some
returns-in-Some c = none_said c.self.inside.round c.in-Some.round c.self.inside.marks.items (omega (arith, c.in-Some.ensures)) c.self.invariant.1

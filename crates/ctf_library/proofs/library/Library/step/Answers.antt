use Rattle.std.proofs.Common.{sym, subst, inl, inr}
use Rattle.ctf_model.specs.spaces.Kept.{Kept}
use Rattle.std.specs.Prelude.{Option}
use Rattle.std.specs.Option.{ForSome}
use Rattle.ctf_laws.proofs.Steps.{steps_keep_good}
use Rattle.ctf_laws.specs.Good.{FitsChange, IsFaultless, IsGood}
use Rattle.ctf_protocol.specs.answers.Answers.{Reply}
use Rattle.ctf_protocol.specs.sessions.Runs.{Answered}
use Rattle.ctf_protocol.specs.sessions.State.{State}
use Rattle.ctf_protocol.specs.sessions.Steps.{change_step}
use Rattle.ctf_protocol.specs.declared.requests.Change.{Change}
use Rattle.ctf_protocol.specs.declared.requests.Request.TheVariants.{Changes}
use Rattle.ctf_library.proofs.library.Library.step.Goals as goal

-- a step that was made, or ran out of memory
stays : (old new : State) (c : Change) (found : Option Kept) (reply : Reply) → Answered old (change_step old c found) reply new → IsGood old → FitsChange c → ForSome found IsFaultless → IsGood new
stays old new c found reply (inl done) g fits h = subst IsGood (sym done.1) (steps_keep_good old (Changes c) found g fits h)
stays old new c found reply (inr none) g fits h = subst IsGood (sym none.1) g

pub returns-clause-good : goal.returns-clause-good
returns-clause-good c = λ g fits h. subst IsGood (sym c.give_back_room.ensures) (stays _ _ _ _ _ c.make-outcome.ensures.step g fits h)

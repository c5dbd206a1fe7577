-- The step of a change in a library. Source: ours.
use Rattle.std.specs.Prelude.{◌≡◌, Result}
use Rattle.ctf_answers.specs.Replies.{unaddressed_reply}
use Rattle.ctf_answers.specs.declared.counts.Counts.{Counts}
use Rattle.ctf_protocol.specs.sessions.Runs.{Answered}
use Rattle.ctf_protocol.specs.sessions.State.{State}
use Rattle.ctf_protocol.specs.sessions.Outcomes.{Outcome}
use Rattle.ctf_model.specs.declared.faults.Fault.{Fault}

-- the step was made, or memory ran out and nothing changed
abbrev pub Makes : State → Outcome → Result Counts Fault → State → Type 0
Makes old outcome result new = Answered old outcome (unaddressed_reply result) new

-- the step was made; it cannot run out of memory
pub record Does (outcome : Outcome) (result : Result Counts Fault) (new : State) : Type 0 where
  pub reply : unaddressed_reply result ≡ outcome.reply
  pub state : new ≡ outcome.state

-- Requests that may run out of memory after their line was read. Source: ours.
use Rattle.std.specs.Prelude.{◌≡◌, ◌<◌, ◌⊎◌, ℕ, length, true, false, Result, Ok, Err}
use Rattle.ctf_library.specs.Telling.{makes_text}
use Rattle.ctf_protocol.specs.answers.Answers.{Reply}
use Rattle.ctf_protocol.specs.lines.ReplyLines.{reply_line}
use Rattle.ctf_protocol.specs.sessions.Runs.{IsGranted}
use Rattle.ctf_protocol.specs.sessions.State.{State, empty_state}
use Rattle.ctf_protocol.specs.sessions.SlotQuestions.{answer_to}
use Rattle.ctf_protocol.specs.sessions.Quiet.{is_quiet_change}
use Rattle.ctf_model.specs.declared.faults.Fault.{Fault}
use Rattle.ctf_protocol.specs.declared.requests.Request.{Request}
use Rattle.ctf_protocol.specs.declared.requests.Request.TheVariants.{Asks, Changes}

-- A request of a session with this library may need memory: a question whose answer is a newly made
-- text, or whose reply exceeds the room after a batch; a change, unless it only releases something,
-- or any change of a session that holds nothing.
abbrev pub MayNeedMemory : ℕ → State → Request → Type 0
MayNeedMemory s library (Asks d question) =
    (makes_text question ≡ true)
    ⊎ (131072 < length (reply_line (record {
      session = s;
      outcome = answer_to d question library;
    })))
MayNeedMemory s library (Changes change) =
    (is_quiet_change change ≡ false) ⊎ (library ≡ empty_state)

-- the same for a line; one without a request needs none
abbrev pub MayRefuse : (ℕ → State) → Result (ℕ × Request) (ℕ × Fault) → Type 0
MayRefuse libraries (Ok said) = MayNeedMemory said.0 (libraries said.0) said.1
MayRefuse libraries (Err refusal) = ⊥

-- the request was granted, or it may need memory
abbrev pub IsGrantedUnless : (ℕ → State) → ℕ → Request → Reply → (ℕ → State) → Type 0
IsGrantedUnless old s request reply new =
    IsGranted old s request reply new ⊎ MayNeedMemory s (old s) request

-- The answer to a session's line that carries a number of its own. Source: ours.
use Rattle.std.specs.Prelude.{◌≡◌, ◌⊎◌, ℕ, List, Some, Result, Ok, Err}
use Rattle.ctf_lines.specs.Numbered.{ask_as}
use Rattle.ctf_protocol.specs.answers.Answers.{Reply}
use Rattle.ctf_protocol.specs.lines.ReplyLines.{fault_line, reply_line}
use Rattle.ctf_protocol.specs.sessions.Runs.{IsGranted, Steps, address_to, no_memory}
use Rattle.ctf_protocol.specs.sessions.State.{State}
use Rattle.ctf_model.specs.declared.faults.Fault.{Fault}
use Rattle.ctf_protocol.specs.declared.requests.Request.{Request}
use Rattle.ctf_broker.specs.Table.{Libraries, library_at}
use Rattle.ctf_wire.specs.Memory.{MayNeedMemory}
use Rattle.ctf_wire.specs.Serving.{AllStay, MayWant}

-- the request is answered as the session's, and the reply carries the line's own number
pub record AnswersAs (old : ℕ → State) (s own : ℕ) (request : Request) (written : List ℕ)
    (new : ℕ → State) : Type 0 where
  pub reply : Reply
  pub said : written ≡ reply_line (address_to own reply)
  pub steps : Steps old s request reply new
  pub granted : IsGranted old s request reply new ⊎ MayNeedMemory own (old s) request

-- a line was answered: with its refusal, or with the reply to its request's step
abbrev pub ReactsAs : (ℕ → State) → ℕ → Result (ℕ × Request) (ℕ × Fault) → List ℕ → (ℕ → State)
    → Type 0
ReactsAs old s (Err refusal) written new =
    (written ≡ fault_line refusal.0 refusal.1) × AllStay old new
ReactsAs old s (Ok said) written new = AnswersAs old s said.0 said.1 written new

-- one line of a session among all libraries: reading it ran out of memory, or it was answered
abbrev pub LineStepsAs : Libraries → ℕ → List ℕ → List ℕ → Libraries → Type 0
LineStepsAs old s line written new =
    (MayWant (Some line) × (written ≡ reply_line (no_memory 0))
    × AllStay (library_at old) (library_at new))
    ⊎ ReactsAs (library_at old) s (ask_as s line) written (library_at new)

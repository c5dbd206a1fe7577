-- The output for the lines of all sessions. Source: ours.
use Rattle.std.specs.Prelude.{ℕ, List, [], ◌∷◌, Result, Ok, Err}
use Rattle.ctf_protocol.specs.answers.Answers.{Reply}
use Rattle.ctf_protocol.specs.lines.Ask.{ask}
use Rattle.ctf_protocol.specs.lines.ReplyLines.{fault_line, reply_line}
use Rattle.ctf_protocol.specs.sessions.Runs.{Call, own_state, found_in, address_to, no_memory}
use Rattle.ctf_protocol.specs.sessions.State.{State}
use Rattle.ctf_protocol.specs.sessions.Steps.{step}
use Rattle.ctf_model.specs.declared.faults.Fault.{Fault}
use Rattle.ctf_protocol.specs.declared.requests.Request.{Request}

-- how memory affected a line: it was answered, its request ran out of memory, or already reading it
-- did
pub data Mark : Type 0 where
  answered : Mark
  refused : Mark
  unread : Mark

-- the reply to a request after a history, from the session's own run
abbrev pub own_reply : (ℕ → State) → List Call → ℕ → Request → Reply
own_reply start calls s request =
    address_to s
    (step (own_state start calls s) request (found_in (own_state start calls) request)).reply

-- the session of a line; 0 if it cannot be read
abbrev pub session_of : Result (ℕ × Request) (ℕ × Fault) → ℕ
session_of (Ok said) = said.0
session_of (Err refusal) = refusal.0

-- the output for one line after a history
abbrev pub line_out : (ℕ → State) → List Call → Mark → Result (ℕ × Request) (ℕ × Fault) → List ℕ
line_out start calls unread said = reply_line (no_memory 0)
line_out start calls refused said = reply_line (no_memory (session_of said))
line_out start calls answered (Err refusal) = fault_line refusal.0 refusal.1
line_out start calls answered (Ok said) = reply_line (own_reply start calls said.0 said.1)

-- the history after a line; only an answered request is added
abbrev pub calls_after : List Call → Mark → Result (ℕ × Request) (ℕ × Fault) → List Call
calls_after calls unread said = calls
calls_after calls refused said = calls
calls_after calls answered (Err refusal) = calls
calls_after calls answered (Ok said) = record { session = said.0; request = said.1 } ∷ calls

-- the reply lines to these lines, one for each; a line without a mark was answered
abbrev pub out : (ℕ → State) → List Call → List (List ℕ) → List Mark → List (List ℕ)
out start calls [] marks = []
out start calls (line ∷ lines) [] =
    line_out start calls answered (ask line)
    ∷ out start (calls_after calls answered (ask line)) lines []
out start calls (line ∷ lines) (mark ∷ marks) =
    line_out start calls mark (ask line) ∷ out start (calls_after calls mark (ask line)) lines marks

-- the history of these lines
abbrev pub calls_made : List Call → List (List ℕ) → List Mark → List Call
calls_made calls [] marks = calls
calls_made calls (line ∷ lines) [] = calls_made (calls_after calls answered (ask line)) lines []
calls_made calls (line ∷ lines) (mark ∷ marks) =
    calls_made (calls_after calls mark (ask line)) lines marks

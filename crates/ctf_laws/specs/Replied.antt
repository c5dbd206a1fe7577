-- The reply lines of a run, each correct for the library at its time. Source: ours.
use Rattle.std.specs.Prelude.{◌≡◌, ℕ, List, [], ◌∷◌, length, take, slice_get, unwrap_or, Option, Some, Result, Ok, Err}
use Rattle.ctf_model.specs.spaces.Kept.{Kept}
use Rattle.ctf_model.specs.declared.faults.Fault.{Fault}
use Rattle.ctf_protocol.specs.answers.Answers.{Answer}
use Rattle.ctf_protocol.specs.lines.Ask.{ask}
use Rattle.ctf_protocol.specs.lines.Output.{Mark, answered, calls_made, out, refused, session_of, unread}
use Rattle.ctf_protocol.specs.lines.ReplyLines.{fault_line, outcome_line, reply_line}
use Rattle.ctf_protocol.specs.sessions.Runs.{Call, found_in, no_memory, own_state}
use Rattle.ctf_protocol.specs.sessions.State.{State}
use Rattle.ctf_protocol.specs.declared.requests.Request.{Request}
use Rattle.ctf_laws.specs.Good.{AreGood}
use Rattle.ctf_laws.specs.Right.{IsRight}

-- the line of a correct reply to a session
pub record IsReply (s : ℕ) (old : State) (request : Request) (found : Option Kept) (line : List ℕ)
    (new : State) : Type 0 where
  pub said : Result Answer Fault
  pub written : line ≡ outcome_line s said
  pub right : IsRight old request found said new

-- the correct output for a line after a history: out of memory, the refusal of a line without a
-- request, or the reply of the session's own library
abbrev pub IsWritten : (ℕ → State) → List Call → Mark → Result (ℕ × Request) (ℕ × Fault) → List ℕ
    → Type 0
IsWritten start calls unread asked reply = reply ≡ reply_line (no_memory 0)
IsWritten start calls refused asked reply = reply ≡ reply_line (no_memory (session_of asked))
IsWritten start calls answered (Err refusal) reply = reply ≡ fault_line refusal.0 refusal.1
IsWritten start calls answered (Ok asked) reply =
    IsReply asked.0 (own_state start calls asked.0) asked.1
    (found_in (own_state start calls) asked.1) reply
    (own_state start (record { session = asked.0; request = asked.1 } ∷ calls) asked.0)

-- the mark of line `k`; a line without one was answered
abbrev pub mark_at : ℕ → List Mark → Mark
mark_at k marks = unwrap_or (slice_get marks k) answered

-- each line has a reply that is correct for its session's library at the time
pub record AreReplies (start : ℕ → State) (lines : List (List ℕ)) (marks : List Mark)
    (replies : List (List ℕ)) : Type 0 where
  pub each : length replies ≡ length lines
  pub right : (k : ℕ) (line reply : List ℕ) → slice_get lines k ≡ Some line
      → slice_get replies k ≡ Some reply
      → IsWritten start (calls_made [] (take k lines) marks) (mark_at k marks) (ask line) reply

-- ---- the law

-- the replies of sessions' own runs are correct if all libraries were good at the start
abbrev pub RunsReplyRightly : Type 0
RunsReplyRightly =
    (start : ℕ → State) (lines : List (List ℕ)) (marks : List Mark) → AreGood start
    → AreReplies start lines marks (out start [] lines marks)

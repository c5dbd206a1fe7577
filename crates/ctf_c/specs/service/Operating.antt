-- The effect of a program's calls on a service: lines of its sessions, the operator's dictionaries,
-- and sessions that leave. Source: ours.
use Rattle.std.specs.Prelude.{◌≡◌, ◌≢◌, ◌⊎◌, ◌+◌, ℕ, List, Bool, true, false, Option, None, Some, Result, Ok, Err}
use Rattle.ctf_broker.specs.Loading.{loads_section}
use Rattle.ctf_broker.specs.Table.{library_at}
use Rattle.ctf_model.specs.declared.faults.Fault.{Fault}
use Rattle.ctf_model.specs.declared.faults.TheConstants.Fault.{BAD_REQUEST}
use Rattle.ctf_protocol.specs.answers.Answers.{Answer}
use Rattle.ctf_protocol.specs.sessions.Outcomes.{Outcome}
use Rattle.ctf_protocol.specs.sessions.Publications.{is_publication_name}
use Rattle.ctf_protocol.specs.sessions.State.{empty_state}
use Rattle.ctf_wire.specs.ServingAs.{LineStepsAs}
use Rattle.ctf_c.specs.service.Given.{IsNotOpen, TextOut, fit_text}
use Rattle.ctf_c.specs.service.Served.{Served}

-- the status of an answer: 0; or of a refusal: its code plus 1
abbrev pub status_of_answer : Result Answer Fault → ℕ
status_of_answer (Ok answer) = 0
status_of_answer (Err fault) = fault.code + 1

-- the other sessions and the last reply are unchanged
pub record StaysBeside (session : ℕ) (old new : Served) : Type 0 where
  pub others : (other : ℕ) → other ≢ session
      → library_at new.libraries other ≡ library_at old.libraries other
  pub reply : new.reply ≡ old.reply

-- the operator's library makes the step of a load; or memory ran out, and it is unchanged
pub record Loads (name ctf : List ℕ) (status : ℕ) (old new : Served) : Type 0 where
  pub own : (let made = loads_section name ctf (library_at old.libraries 0) in
      (status ≡ status_of_answer made.reply.outcome) × (library_at new.libraries 0 ≡ made.state))
      ⊎ ((status ≡ 1) × (library_at new.libraries 0 ≡ library_at old.libraries 0))
  pub beside : StaysBeside 0 old new

-- the session has no slots and no publications
pub record Leaves (session : ℕ) (old new : Served) : Type 0 where
  pub own : library_at new.libraries session ≡ empty_state
  pub beside : StaysBeside session old new

-- a name that no publication can have is refused, or memory runs out
abbrev pub LoadsIf : Bool → List ℕ → List ℕ → ℕ → Served → Served → Type 0
LoadsIf true name ctf status old new = Loads name ctf status old new
LoadsIf false name ctf status old new =
    ((status ≡ BAD_REQUEST + 1) ⊎ (status ≡ 1)) × (new ≡ old)

abbrev pub LoadsNamed : List ℕ → List ℕ → ℕ → Served → Served → Type 0
LoadsNamed name ctf status old new = LoadsIf (is_publication_name name) name ctf status old new

-- an open service stays open and makes the step; if none is open, nothing happens
abbrev pub OfOpen : (Served → Served → Type 0) → Option Served → ℕ → Option Served → Type 0
OfOpen Happens None status None = status ≡ 50
OfOpen Happens None status (Some s) = ⊥
OfOpen Happens (Some s) status None = ⊥
OfOpen Happens (Some s) status (Some after) = Happens s after

-- a line is answered as the session's; session 0 is the operator's, which makes no requests
abbrev pub AnswersAs : ℕ → List ℕ → ℕ → TextOut → TextOut → Served → Served → Type 0
AnswersAs session line status old new s after =
    ((session ≡ 0) × (status ≡ BAD_REQUEST + 1) × (new ≡ old) × (after ≡ s))
    ⊎ ((session ≢ 0) × LineStepsAs s.libraries session line after.reply after.libraries
    × (status ≡ 0) × (new ≡ fit_text after.reply old))

abbrev pub ServesAs : ℕ → Option Served → List ℕ → ℕ → TextOut → TextOut → Option Served → Type 0
ServesAs session None line status old new None = IsNotOpen status old new
ServesAs session None line status old new (Some s) = ⊥
ServesAs session (Some s) line status old new None = ⊥
ServesAs session (Some s) line status old new (Some after) =
    AnswersAs session line status old new s after

-- Runs of one session by itself, and of many sessions together. Source: ours. A history is a list,
-- newest first.
use Rattle.std.specs.Prelude.{◌≡◌, ◌≢◌, ◌⊎◌, ℕ, ◌==◌, List, [], ◌∷◌, Option, None, Some, Err, option_and_then, if◌then◌else◌}
use Rattle.ctf_protocol.specs.answers.Answers.{Reply}
use Rattle.ctf_model.specs.spaces.Kept.{Kept}
use Rattle.ctf_protocol.specs.sessions.Publications.{published_as}
use Rattle.ctf_model.specs.rules.Refusals.{out_of_memory}
use Rattle.ctf_protocol.specs.sessions.State.{State}
use Rattle.ctf_protocol.specs.sessions.Outcomes.{Outcome}
use Rattle.ctf_protocol.specs.sessions.Steps.{step}
use Rattle.ctf_protocol.specs.declared.requests.Change.TheVariants.{Take}
use Rattle.ctf_protocol.specs.declared.requests.Request.{Request}
use Rattle.ctf_protocol.specs.declared.requests.Request.TheVariants.{Changes}

-- ---- a session by itself

-- a request, with the publication that its take found
pub record Given : Type 0 where
  pub request : Request
  pub found : Option Kept

-- a session's own library after a history of requests
abbrev pub private_state : State → List Given → State
private_state start [] = start
private_state start (now ∷ earlier) =
    (step (private_state start earlier) now.request now.found).state

-- its replies, newest first
abbrev pub private_replies : State → List Given → List Reply
private_replies start [] = []
private_replies start (now ∷ earlier) =
    (step (private_state start earlier) now.request now.found).reply ∷ private_replies start earlier

-- ---- many sessions

-- a request and its session
pub record Call : Type 0 where
  pub session : ℕ
  pub request : Request

-- the owner and name in a request to take
abbrev pub taken_by : Request → Option (ℕ × List ℕ)
taken_by (Changes (Take owner name)) = Some (owner, name)
taken_by _ = None

-- the publication that a request to take finds, given all libraries
abbrev pub found_in : (ℕ → State) → Request → Option Kept
found_in libraries request =
    option_and_then (λ taken. published_as taken.1 (libraries taken.0).published) (taken_by request)

-- what a session's own run gets from a history of all sessions: its requests, with the publications
-- that its takes found
abbrev pub own_inputs : (ℕ → State) → List Call → ℕ → List Given
own_inputs start [] s = []
own_inputs start (call ∷ earlier) s =
    if call.session == s
    then record {
      request = call.request;
      found = found_in (λ q. private_state (start q) (own_inputs start earlier q)) call.request;
    }
    ∷ own_inputs start earlier s
    else own_inputs start earlier s

-- the library of a session's own run, after a history of all sessions
abbrev pub own_state : (ℕ → State) → List Call → ℕ → State
own_state start calls s = private_state (start s) (own_inputs start calls s)

-- the replies of a session's own run, after a history of all sessions, newest first
abbrev pub own_replies : (ℕ → State) → List Call → ℕ → List Reply
own_replies start calls s = private_replies (start s) (own_inputs start calls s)

-- ---- one call among many libraries

abbrev pub address_to : ℕ → Reply → Reply
address_to s reply = record reply { session = s }

-- the reply that a request ran out of memory
abbrev pub no_memory : ℕ → Reply
no_memory s = record { session = s; outcome = Err out_of_memory }

-- a step of one library: the defined outcome, or out of memory and no change
abbrev pub Answered : State → Outcome → Reply → State → Type 0
Answered old outcome reply new =
    ((reply ≡ outcome.reply) × (new ≡ outcome.state)) ⊎ ((reply ≡ no_memory 0) × (new ≡ old))

-- the caller's library made the step
abbrev pub IsGranted : (ℕ → State) → ℕ → Request → Reply → (ℕ → State) → Type 0
IsGranted old s request reply new =
    (reply ≡ address_to s (step (old s) request (found_in old request)).reply)
    × (new s ≡ (step (old s) request (found_in old request)).state)

-- out of memory, and the caller's library is unchanged
abbrev pub IsRefused : (ℕ → State) → ℕ → Reply → (ℕ → State) → Type 0
IsRefused old s reply new = (reply ≡ no_memory s) × (new s ≡ old s)

-- one of these two, with all other libraries unchanged
pub record Steps (old : ℕ → State) (s : ℕ) (request : Request) (reply : Reply)
    (new : ℕ → State) : Type 0 where
  pub own : IsGranted old s request reply new ⊎ IsRefused old s reply new
  pub others : (other : ℕ) → other ≢ s → new other ≡ old other

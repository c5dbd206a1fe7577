-- Laws of the runs of many sessions. Each is the contract of a function of src/session_laws.rt.
use Rattle.std.specs.Prelude.{◌≡◌, ◌≢◌, ℕ, ◌==◌, not, List, [], ◌∷◌, Bool, true, false, filter, map}
use Rattle.std.specs.List.{list_any}
use Rattle.std.specs.Option.{ForSome}
use Rattle.ctf_protocol.specs.answers.Answers.{Reply}
use Rattle.ctf_protocol.specs.sessions.Runs.{Call, Steps, IsGranted, IsRefused, own_inputs, own_state, own_replies, address_to, taken_by}
use Rattle.ctf_protocol.specs.sessions.State.{State}
use Rattle.ctf_protocol.specs.declared.requests.Request.{Request}

-- ---- two worlds

-- two histories that give a session the same inputs leave it with the same replies and the same
-- library
abbrev pub SameGiven : Type 0
SameGiven =
    (start other_start : ℕ → State) (calls other_calls : List Call) (s : ℕ)
    → start s ≡ other_start s → own_inputs start calls s ≡ own_inputs other_start other_calls s
    → (own_replies start calls s ≡ own_replies other_start other_calls s)
    × (own_state start calls s ≡ own_state other_start other_calls s)

-- ---- sessions that no take involves

-- the session is in the list
abbrev pub is_among : List ℕ → ℕ → Bool
is_among sessions s = list_any (λ q. q == s) sessions

-- a request to take is from a session in the list
abbrev pub TakesFrom : List ℕ → Request → Type 0
TakesFrom sessions request = ForSome (taken_by request) (λ taken. is_among sessions taken.0 ≡ true)

-- the sessions in the list take only from one another
abbrev pub IsClosed : List ℕ → List Call → Type 0
IsClosed sessions [] = Unit {0}
IsClosed sessions (call ∷ earlier) =
    (is_among sessions call.session ≡ true → TakesFrom sessions call.request)
    × IsClosed sessions earlier

-- a history without the calls of other sessions
abbrev pub calls_among : List ℕ → List Call → List Call
calls_among sessions calls = filter (λ call. is_among sessions call.session) calls

-- leaving out the other sessions changes nothing for these
abbrev pub UnreachedDoNotMatter : Type 0
UnreachedDoNotMatter =
    (start : ℕ → State) (calls : List Call) (sessions : List ℕ) → IsClosed sessions calls
    → (s : ℕ) → is_among sessions s ≡ true
    → own_inputs start (calls_among sessions calls) s ≡ own_inputs start calls s

-- ---- each session by itself

-- a request of a session, its reply, and whether it ran out of memory
pub record Event : Type 0 where
  pub session : ℕ
  pub request : Request
  pub reply : Reply
  pub refused : Bool

-- the request ran out of memory, or made the step of its session's library
abbrev pub IsReplied : (ℕ → State) → Event → (ℕ → State) → Bool → Type 0
IsReplied old event new true = IsRefused old event.session event.reply new
IsReplied old event new false = IsGranted old event.session event.request event.reply new

-- the event leads from these libraries to the new ones, and others are unchanged
pub record Happens (old : ℕ → State) (event : Event) (new : ℕ → State) : Type 0 where
  pub own : IsReplied old event new event.refused
  pub others : (other : ℕ) → other ≢ event.session → new other ≡ old other

-- every step of a call is an event
abbrev pub EachStepHappens : Type 0
EachStepHappens =
    (old new : ℕ → State) (s : ℕ) (request : Request) (reply : Reply)
    → Steps old s request reply new
    → (refused : Bool)
    × Happens old
    (record { session = s; request = request; reply = reply; refused = refused }) new

-- these events, newest first, lead from libraries `start` to `new`
abbrev pub Run : (ℕ → State) → List Event → (ℕ → State) → Type 0
Run start [] new = (s : ℕ) → new s ≡ start s
Run start (event ∷ earlier) new =
    (between : ℕ → State) × Run start earlier between × Happens between event new

-- the events that did not run out of memory
abbrev pub granted_events : List Event → List Event
granted_events events = filter (λ event. not event.refused) events

abbrev pub calls_of : List Event → List Call
calls_of events = map (λ event. record { session = event.session; request = event.request }) events

-- the replies to a session
abbrev pub replies_to : ℕ → List Event → List Reply
replies_to s events = map (λ event. event.reply) (filter (λ event. event.session == s) events)

-- in any run, each session's replies and library are those of its own run over the requests that
-- did not run out of memory
abbrev pub EachRunsAlone : Type 0
EachRunsAlone = (start new : ℕ → State) (events : List Event) → Run start events new → (s : ℕ)
    → (replies_to s (granted_events events)
    ≡ map (address_to s) (own_replies start (calls_of (granted_events events)) s))
    × (new s ≡ own_state start (calls_of (granted_events events)) s)

-- Simple laws of sessions. Each is the contract of a function of src/plain.rt.
use Rattle.std.specs.Prelude.{◌≡◌, ◌≢◌, ℕ, List, ◌∷◌, ◌++◌, Option, Some, is_some, true, false, option_and_then}
use Rattle.std.specs.List.{AllByRecursion}
use Rattle.ctf_model.specs.spaces.Kept.{Kept}
use Rattle.ctf_protocol.specs.sessions.Publications.{published_as}
use Rattle.ctf_protocol.specs.sessions.Runs.{Given, private_state}
use Rattle.ctf_protocol.specs.sessions.SessionLaws.{Event, Run}
use Rattle.ctf_protocol.specs.sessions.State.{State, empty_state}
use Rattle.ctf_protocol.specs.sessions.Slots.{slot_at}
use Rattle.ctf_protocol.specs.sessions.Steps.{step}
use Rattle.ctf_protocol.specs.declared.requests.Change.TheVariants as change
use Rattle.ctf_protocol.specs.declared.requests.Request.{Request}
use Rattle.ctf_protocol.specs.declared.requests.Request.TheVariants.{Changes}

-- ---- the numbers of slots

-- the request creates a slot with number `n`
pub record Gives (n : ℕ) (state : State) (now : Given) : Type 0 where
  pub before : is_some (slot_at n state.slots) ≡ false
  pub after : is_some (slot_at n (step state now.request now.found).state.slots) ≡ true

abbrev pub IsNoReset : Given → Type 0
IsNoReset now = now.request ≢ Changes change.Reset

-- no slot number is given twice without a reset between, however many slots are closed
abbrev pub NumbersAreGivenOnce : Type 0
NumbersAreGivenOnce =
    (earlier between : List Given) (first second : Given) (n : ℕ)
    → AllByRecursion IsNoReset between → Gives n (private_state empty_state earlier) first
    → Gives n (private_state empty_state (between ++ first ∷ earlier)) second → ⊥

-- ---- publications

-- the event is no withdrawal of this name by its owner
abbrev pub LeavesName : ℕ → List ℕ → Event → Type 0
LeavesName owner name event =
    event.session ≡ owner → event.request ≢ Changes (change.Withdraw name)

-- a publication stays unchanged until its owner withdraws it
abbrev pub PublicationsStay : Type 0
PublicationsStay =
    (start new : ℕ → State) (events : List Event) (owner : ℕ) (name : List ℕ) (kept : Kept)
    → Run start events new → AllByRecursion (LeavesName owner name) events
    → published_as name (start owner).published ≡ Some kept
    → published_as name (new owner).published ≡ Some kept

-- ---- parents

-- the parent of slot `d`, if both exist
abbrev pub parent_of : ℕ → State → Option Kept
parent_of d state = option_and_then (λ slot. slot.parent) (slot_at d state.slots)

-- the request neither closes slot `d`, nor resets, nor imports another parent into it
pub record Spares (d : ℕ) (request : Request) : Type 0 where
  pub closes_not : request ≢ Changes (change.Close d)
  pub resets_not : request ≢ Changes change.Reset
  pub imports_not : (p : ℕ) → request ≢ Changes (change.Import d p)

abbrev pub LeavesParent : ℕ → ℕ → Event → Type 0
LeavesParent owner d event = event.session ≡ owner → Spares d event.request

-- a slot's parent stays as imported or given at creation, whatever happens to the slot or
-- publication that it came from
abbrev pub ParentsStay : Type 0
ParentsStay =
    (start new : ℕ → State) (events : List Event) (owner d : ℕ) (parent : Kept)
    → Run start events new → AllByRecursion (LeavesParent owner d) events
    → parent_of d (start owner) ≡ Some parent → parent_of d (new owner) ≡ Some parent

-- The invariant of a library, whatever any session requests. Source: ours.
use Rattle.std.specs.Prelude.{◌≡◌, ℕ, ◌<◌, ◌^◌, ◌==◌, List, length, not, is_some, None, Ok, FitsSigned}
use Rattle.std.specs.Int.{w32}
use Rattle.std.specs.List.{AllByRecursion}
use Rattle.std.specs.Option.{ForSome, option_map}
use Rattle.ctf_model.specs.drafts.DraftLaws.{IsSound}
use Rattle.ctf_model.specs.drafts.Drafts.{Draft, rollback, content}
use Rattle.ctf_model.specs.drafts.Fitting.{FitsNew}
use Rattle.ctf_model.specs.rules.Faults.{first_fault}
use Rattle.ctf_model.specs.spaces.Kept.{Kept, fault_over, kept_dictionary}
use Rattle.ctf_model.specs.writing.Written.{lists_of, written}
use Rattle.ctf_protocol.specs.sessions.Additions.{asked_body}
use Rattle.ctf_protocol.specs.sessions.State.{Slot, State}
use Rattle.ctf_protocol.specs.declared.additions.Addition.{Addition}
use Rattle.ctf_protocol.specs.declared.additions.Addition.TheVariants as add
use Rattle.ctf_protocol.specs.declared.requests.Change.{Change}
use Rattle.ctf_protocol.specs.declared.requests.Change.TheVariants as change
use Rattle.ctf_protocol.specs.declared.requests.DraftStep.{DraftStep}
use Rattle.ctf_protocol.specs.declared.requests.DraftStep.TheVariants.{Add, Update, Discard}
use Rattle.ctf_protocol.specs.declared.requests.Request.{Request}
use Rattle.ctf_protocol.specs.declared.requests.Request.TheVariants.{Asks, Changes}

-- ---- good libraries

-- its lists break no rule of the format, so they denote one dictionary
abbrev pub IsFaultless : Kept → Type 0
IsFaultless kept = first_fault kept.lists ≡ None

-- the parent fits the dictionary
pub record Serves (own parent : Kept) : Type 0 where
  pub faultless : IsFaultless parent
  pub under : fault_over own parent ≡ None

-- a sound draft over the slot's parent; its last update wrote the slot's lists
pub record IsDraftOf (slot : Slot) (d : Draft) : Type 0 where
  pub sound : IsSound d
  pub above : d.parent ≡ option_map kept_dictionary slot.parent
  pub alike : ForSome slot.parent (λ p. p.model ≡ d.model)
  pub model : slot.kept.model ≡ d.model
  pub bytes : List ℕ
  pub wrote : written (content (rollback d)) ≡ Ok bytes
  pub lists : slot.kept.lists ≡ lists_of bytes

pub record IsGoodSlot (slot : Slot) : Type 0 where
  pub faultless : IsFaultless slot.kept
  pub parent : ForSome slot.parent (Serves slot.kept)
  pub draft : ForSome slot.draft (IsDraftOf slot)

pub record IsGood (state : State) : Type 0 where
  pub slots : AllByRecursion IsGoodSlot state.slots
  pub published : AllByRecursion (λ p. IsFaultless p.kept) state.published

-- the libraries of all sessions are good
abbrev pub AreGood : (ℕ → State) → Type 0
AreGood libraries = (session : ℕ) → IsGood (libraries session)

-- ---- requests

-- the numbers in an addition fit their fields
abbrev pub FitsAddition : Addition → Type 0
FitsAddition (add.Type name root kind) = FitsNew (asked_body kind)
FitsAddition (add.Member t name tnum offset) = Unit {0}
FitsAddition (add.Enumerator t name value) = FitsSigned w32 value
FitsAddition (add.Label name last) = last < 2 ^ 32

abbrev pub FitsStep : DraftStep → Type 0
FitsStep (Add addition) = FitsAddition addition
FitsStep Update = Unit {0}
FitsStep Discard = Unit {0}

-- a draft has a parent exactly if the parent's name is given
abbrev pub FitsChange : Change → Type 0
FitsChange (change.Create asked) = is_some asked.parent ≡ not (length asked.parname == 0)
FitsChange (change.Draft d step) = FitsStep step
FitsChange _ = Unit {0}

abbrev pub FitsRequest : Request → Type 0
FitsRequest (Changes c) = FitsChange c
FitsRequest (Asks d question) = Unit {0}

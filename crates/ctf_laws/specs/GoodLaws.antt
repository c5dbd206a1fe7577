-- Laws of good libraries. Each is the contract of a function of src/lib.rt.
use Rattle.std.specs.Prelude.{◌≡◌, ◌⊎◌, ◌==◌, ℕ, List, [], length, not, is_some, Option, None, Some, Ok, Err}
use Rattle.std.specs.List.{AllByRecursion}
use Rattle.std.specs.Option.{ForSome}
use Rattle.ctf_model.specs.drafts.DraftChanges.{DraftChange, after}
use Rattle.ctf_model.specs.drafts.DraftLaws.{FitsChange as FitsDraftChange}
use Rattle.ctf_model.specs.drafts.Drafts.{Draft, content, new_draft}
use Rattle.ctf_model.specs.format.Dictionary.{Denotes, Dictionary}
use Rattle.ctf_model.specs.format.Laws.{KeepsEveryRule}
use Rattle.ctf_model.specs.rules.Refusals.{placeless}
use Rattle.ctf_model.specs.rules.Rules.{IsFirstFault}
use Rattle.ctf_model.specs.spaces.Imports.{Modelled}
use Rattle.ctf_model.specs.spaces.Kept.{Kept}
use Rattle.ctf_model.specs.spaces.Space.{Space}
use Rattle.ctf_model.specs.writing.Written.{lists_of, written}
use Rattle.ctf_model.specs.declared.data_model.DataModel.{DataModel}
use Rattle.ctf_model.specs.declared.faults.Fault.{Fault}
use Rattle.ctf_model.specs.declared.faults.TheConstants.Fault.{SLOTS_FULL}
use Rattle.ctf_protocol.specs.answers.Answers.{Answer}
use Rattle.ctf_protocol.specs.answers.Questions.{type_answered}
use Rattle.ctf_protocol.specs.answers.SlotAnswers.{whole_answered}
use Rattle.ctf_protocol.specs.lines.Ask.{ask}
use Rattle.ctf_protocol.specs.sessions.DraftSteps.{slot_step}
use Rattle.ctf_protocol.specs.lines.Output.{Mark, calls_made}
use Rattle.ctf_protocol.specs.sessions.Runs.{found_in, own_state}
use Rattle.ctf_protocol.specs.sessions.SessionLaws.{Event, Run}
use Rattle.ctf_protocol.specs.sessions.State.{Slot, State, empty_state}
use Rattle.ctf_protocol.specs.sessions.SlotQuestions.{slot_answered, slot_space}
use Rattle.ctf_protocol.specs.sessions.Steps.{checks, opens, publishes_kept, step}
use Rattle.ctf_protocol.specs.declared.questions.Question.TheVariants.{OfSlot, OfType}
use Rattle.ctf_protocol.specs.declared.questions.SlotQuestion.{SlotQuestion}
use Rattle.ctf_protocol.specs.declared.questions.TypeQuestion.{TypeQuestion}
use Rattle.ctf_model.specs.declared.numbers.TypeNum.{TypeNum}
use Rattle.ctf_protocol.specs.declared.requests.DraftStep.TheVariants.{Update}
use Rattle.ctf_protocol.specs.declared.requests.Request.{Request}
use Rattle.ctf_laws.specs.Good.{AreGood, FitsRequest, IsFaultless, IsGood, IsGoodSlot}

-- ---- libraries stay good

abbrev pub NothingIsGood : Type 0
NothingIsGood = IsGood empty_state

abbrev pub StepsKeepGood : Type 0
StepsKeepGood =
    (state : State) (request : Request) (found : Option Kept) → IsGood state → FitsRequest request
    → ForSome found IsFaultless → IsGood (step state request found).state

-- publishing a faultless dictionary for the operator keeps a library good
abbrev pub LoadsKeepGood : Type 0
LoadsKeepGood =
    (state : State) (name : List ℕ) (kept : Kept) → IsGood state → IsFaultless kept
    → IsGood (publishes_kept name kept state).state

-- a publication found in a good library breaks no rule
abbrev pub FoundIsFaultless : Type 0
FoundIsFaultless =
    (libraries : ℕ → State) (request : Request) → AreGood libraries
    → ForSome (found_in libraries request) IsFaultless

-- in any run, whatever is requested in any order, and wherever memory runs out
abbrev pub RunsKeepGood : Type 0
RunsKeepGood =
    (start new : ℕ → State) (events : List Event) → AreGood start
    → AllByRecursion (λ event. FitsRequest event.request) events → Run start events new
    → AreGood new

-- after any lines, wherever memory runs out, each session's own run has a good library
abbrev pub OwnRunsStayGood : Type 0
OwnRunsStayGood =
    (start : ℕ → State) (lines : List (List ℕ)) (marks : List Mark) → AreGood start
    → AreGood (own_state start (calls_made [] lines marks))

-- the numbers in a line's request fit their fields
abbrev pub LinesFit : Type 0
LinesFit =
    (line : List ℕ) (asked : ℕ × Request) → ask line ≡ Ok asked → FitsRequest asked.1

-- ---- answers of a good slot

-- the parent's lists denote this dictionary, if there is one
abbrev pub AreDenoted : Option Kept → Option Dictionary → Type 0
AreDenoted None None = Unit {0}
AreDenoted (Some parent) (Some d) = Denotes parent.lists d
AreDenoted None (Some d) = ⊥
AreDenoted (Some parent) None = ⊥

-- a dictionary over its parent, as denoted by the lists of a slot
pub record IsDenoted (slot : Slot) (s : Space) : Type 0 where
  pub own : Denotes slot.kept.lists s.own
  pub parent : AreDenoted slot.parent s.parent
  pub model : s.model ≡ slot.kept.model

-- every good slot denotes such a space
abbrev pub SlotsDenote : Type 0
SlotsDenote = (slot : Slot) → IsGoodSlot slot → IsDenoted slot (slot_space slot)

-- it is the only one, and questions are answered from it
pub record AnswersOf (slot : Slot) (s : Space) : Type 0 where
  pub types : (question : TypeQuestion) (t : TypeNum)
      → slot_answered (OfType t question) slot ≡ type_answered question s t.0
  pub wholes : (question : SlotQuestion)
      → slot_answered (OfSlot question) slot ≡ whole_answered question s

abbrev pub AnswersAreOfWhatIsDenoted : Type 0
AnswersAreOfWhatIsDenoted = (slot : Slot) (s : Space) → IsDenoted slot s → AnswersOf slot s

-- ---- checks

-- a check refuses exactly for the first rule that the staged lists break
abbrev pub ChecksRefuseByTheFirstRule : Type 0
ChecksRefuseByTheFirstRule =
    (state : State) (f : Fault) → (checks state).reply.outcome ≡ Err f → IsFirstFault state.stage f

abbrev pub ChecksAcceptWhatKeepsEveryRule : Type 0
ChecksAcceptWhatKeepsEveryRule =
    (state : State) (a : Answer) → (checks state).reply.outcome ≡ Ok a → KeepsEveryRule state.stage

-- so does an open, if there is a free slot
abbrev pub OpensRefuseByTheFirstRule : Type 0
OpensRefuseByTheFirstRule =
    (model : DataModel) (state : State) (f : Fault) → (opens model state).reply.outcome ≡ Err f
    → (f ≡ placeless SLOTS_FULL) ⊎ IsFirstFault state.stage f

abbrev pub OpensAcceptWhatKeepsEveryRule : Type 0
OpensAcceptWhatKeepsEveryRule =
    (model : DataModel) (state : State) (a : Answer) → (opens model state).reply.outcome ≡ Ok a
    → KeepsEveryRule state.stage

-- ---- updates

-- after an update, the slot's lists denote the whole content of its draft
abbrev pub UpdatesDenoteTheDraft : Type 0
UpdatesDenoteTheDraft =
    (slot : Slot) (d : Draft) (a : Answer) → IsGoodSlot slot → slot.draft ≡ Some d
    → (slot_step Update slot).said ≡ Ok a
    → Denotes (slot_step Update slot).slot.kept.lists (content d)

-- whatever changes are made to a new draft, its bytes denote the added types, members, labels and
-- names in order, without the discarded ones
abbrev pub BytesDenoteWhatWasAdded : Type 0
BytesDenoteWhatWasAdded =
    (parent : Option Modelled) (parname parlabel : List ℕ) (model : DataModel) (d : Draft)
    (changes : List DraftChange) (bytes : List ℕ) → is_some parent ≡ not (length parname == 0)
    → new_draft parent parname parlabel model ≡ Ok d → AllByRecursion FitsDraftChange changes
    → written (content (after d changes)) ≡ Ok bytes
    → Denotes (lists_of bytes) (content (after d changes))

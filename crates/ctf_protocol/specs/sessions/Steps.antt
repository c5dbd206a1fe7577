-- What each request does to a session's library: its refusals in order, then its answer and the new
-- library. Source: ours. Needs Outcomes, Slots, DraftSteps, Publications and SlotQuestions.
use Rattle.std.specs.Prelude.{ℕ, ◌+◌, List, [], ◌∷◌, ◌++◌, length, Option, Some, Result, Ok, Err, is_some, unwrap_or, nat_lt, codes}
use Rattle.ctf_protocol.specs.answers.Answers.{Answer, says}
use Rattle.ctf_protocol.specs.answers.Answers as answers
use Rattle.ctf_protocol.specs.sessions.Creations.{Created}
use Rattle.ctf_protocol.specs.sessions.DraftSteps.{created_slot, slot_step}
use Rattle.ctf_protocol.specs.sessions.Opened.{SlotOutcome, open_of}
use Rattle.ctf_protocol.specs.sessions.Outcomes.{Outcome, finding, grants, making, needs, outcome_of, refused_by, refused_where, within_quota}
use Rattle.ctf_protocol.specs.sessions.Publications.{published_as, published_without}
use Rattle.ctf_protocol.specs.sessions.SlotQuestions.{answer_to}
use Rattle.ctf_protocol.specs.sessions.Slots.{adds_slot, has_room, on_slot, over_slot, slots_with, slots_with_parent, slots_without}
use Rattle.ctf_protocol.specs.sessions.State.{State, Slot, empty_state, empty_stage}
use Rattle.ctf_model.specs.rules.Faults.{first_fault}
use Rattle.ctf_model.specs.format.Lists.{Lists}
use Rattle.ctf_model.specs.opened.Open.{pending_in}
use Rattle.ctf_model.specs.opened.Steps.{import_refusal}
use Rattle.ctf_model.specs.spaces.Kept.{Kept}
use Rattle.ctf_model.specs.declared.data_model.DataModel.{DataModel}
use Rattle.ctf_model.specs.declared.faults.Fault.{Fault}
use Rattle.ctf_model.specs.declared.faults.TheConstants.Fault.{SLOTS_FULL, STAGE_FULL, NAME_TAKEN, NOT_PUBLISHED, NOT_UPDATED}
use Rattle.ctf_protocol.specs.declared.requests.ListName.{ListName}
use Rattle.ctf_protocol.specs.declared.requests.ListName.TheVariants.{Ctf, Sym, Str}
use Rattle.ctf_protocol.specs.declared.requests.Request.{Request}
use Rattle.ctf_protocol.specs.declared.requests.DraftStep.{DraftStep}
use Rattle.ctf_protocol.specs.declared.requests.DraftStep.TheVariants.{Add, Update, Discard}
use Rattle.ctf_protocol.specs.declared.requests.Change.{Change}
use Rattle.ctf_protocol.specs.declared.requests.Change.TheVariants as change
use Rattle.ctf_protocol.specs.declared.requests.Request.TheVariants.{Changes, Asks}

-- ---- the stage: part, check, open, clear

-- the greatest length of a staged list, in bytes
abbrev pub longest_list : ℕ
longest_list = 67108864

-- the bytes of a staged list; empty if no part was staged
abbrev pub list_in : ListName → Lists → List ℕ
list_in Ctf stage = stage.ctf
list_in Sym stage = unwrap_or stage.sym []
list_in Str stage = unwrap_or stage.strs []

-- a list counts as staged from its first part on, even if that is empty
abbrev pub with_staged : ListName → List ℕ → Lists → Lists
with_staged Ctf bytes stage = record stage { ctf = bytes }
with_staged Sym bytes stage = record stage { sym = Some bytes }
with_staged Str bytes stage = record stage { strs = Some bytes }

-- sets a staged list
abbrev pub stages : ListName → List ℕ → State → Outcome
stages list bytes state =
    refused_where (nat_lt longest_list (length bytes)) STAGE_FULL state
    (within_quota
    (grants (says (codes "length") (answers.number (length bytes)) ∷ [])
    (record state { stage = with_staged list bytes state.stage })) state)

-- appends a part to a staged list
abbrev pub parts : ListName → List ℕ → State → Outcome
parts list piece state = stages list (list_in list state.stage ++ piece) state

-- checks the staged lists
abbrev pub checks : State → Outcome
checks state = refused_by (first_fault state.stage) state (grants [] state)

-- opens the staged lists in a new slot, and clears the stage
abbrev pub opens : DataModel → State → Outcome
opens model state =
    needs (has_room state) SLOTS_FULL state
    (refused_by (first_fault state.stage) state
    (adds_slot (record { lists = state.stage; model = model })
    (record state { stage = empty_stage })))

abbrev pub clears : State → Outcome
clears state = grants [] (record state { stage = empty_stage })

-- ---- slots: reset, close, import

-- drops everything but the publications
abbrev pub resets : State → Outcome
resets state = grants [] (record empty_state { published = state.published })

abbrev pub closes : ℕ → State → Outcome
closes d state =
    on_slot d state
    (λ slot. grants [] (record state { slots = slots_without d state.slots }))

-- the current dictionary of the second slot becomes the parent of the first
abbrev pub imports : ℕ → ℕ → State → Outcome
imports d p state =
    on_slot d state (λ child.
    on_slot p state (λ parent.
    refused_by (import_refusal (open_of child) (open_of parent)) state
    (within_quota
    (grants [] (record state { slots = slots_with_parent d parent.kept state.slots })) state)))

-- ---- publications: publish, withdraw, take

abbrev pub adds_publication : List ℕ → Kept → State → Outcome
adds_publication name kept state =
    grants []
    (record state { published = state.published ++ record { name = name; kept = kept } ∷ [] })

-- adds a publication; the operator's have no quota
abbrev pub publishes_kept : List ℕ → Kept → State → Outcome
publishes_kept name kept state =
    refused_where (is_some (published_as name state.published)) NAME_TAKEN state
    (adds_publication name kept state)

-- publishes the current dictionary of a slot, unless its draft has pending additions
abbrev pub publishes : ℕ → List ℕ → State → Outcome
publishes d name state =
    on_slot d state (λ slot.
    refused_where (nat_lt 0 (pending_in slot.draft)) NOT_UPDATED state
    (refused_where (is_some (published_as name state.published)) NAME_TAKEN state
    (within_quota (adds_publication name slot.kept state) state)))

-- withdraws a publication; sessions that took it keep it
abbrev pub withdraws : List ℕ → State → Outcome
withdraws name state =
    needs (is_some (published_as name state.published)) NOT_PUBLISHED state
    (grants [] (record state { published = published_without name state.published }))

-- opens a found publication in a new slot, without a parent
abbrev pub takes : Option Kept → State → Outcome
takes found state =
    needs (has_room state) SLOTS_FULL state
    (finding NOT_PUBLISHED found state (λ kept.
    within_quota (adds_slot kept state) state))

-- ---- drafts: create, add, update, discard

-- adds the slot of a new draft, with the next number
abbrev pub adds_draft : Slot → State → Outcome
adds_draft slot state =
    within_quota
    (grants (says (codes "d") (answers.number state.next) ∷ [])
    (record state { slots = state.slots ++ slot ∷ []; next = state.next + 1 })) state

-- makes a draft over the current dictionary of a slot, or without a parent
abbrev pub creates : Created → State → Outcome
creates asked state =
    over_slot asked.parent state (λ parent.
    needs (has_room state) SLOTS_FULL state
    (making (created_slot state.next parent asked) state (λ slot.
    adds_draft slot state)))

abbrev pub slot_becomes : ℕ → SlotOutcome → State → Outcome
slot_becomes d outcome state =
    outcome_of outcome.said (record state { slots = slots_with d outcome.slot state.slots })

-- the dictionary that an update writes counts against the quota
abbrev pub updates_within : Result Answer Fault → Outcome → State → Outcome
updates_within (Ok answer) outcome state = within_quota outcome state
updates_within (Err fault) outcome state = outcome

abbrev pub becomes_by : DraftStep → ℕ → SlotOutcome → State → Outcome
becomes_by (Add addition) d outcome state = slot_becomes d outcome state
becomes_by Update d outcome state =
    updates_within outcome.said (slot_becomes d outcome state) state
becomes_by Discard d outcome state = slot_becomes d outcome state

-- a step of the draft in a slot
abbrev pub steps_draft : ℕ → DraftStep → State → Outcome
steps_draft d step state =
    on_slot d state (λ slot. becomes_by step d (slot_step step slot) state)

-- ---- all requests

-- only a take uses the found publication
unfoldable pub change_step : State → Change → Option Kept → Outcome
change_step state (change.Part list piece) found = parts list piece state
change_step state change.Check found = checks state
change_step state (change.Open model) found = opens model state
change_step state change.Clear found = clears state
change_step state change.Reset found = resets state
change_step state (change.Close d) found = closes d state
change_step state (change.Import d parent) found = imports d parent state
change_step state (change.Publish d name) found = publishes d name state
change_step state (change.Withdraw name) found = withdraws name state
change_step state (change.Take owner name) found = takes found state
change_step state (change.Create asked) found = creates asked state
change_step state (change.Draft d step) found = steps_draft d step state

-- a question leaves the library as it was
abbrev pub step : State → Request → Option Kept → Outcome
step state (Changes change) found = change_step state change found
step state (Asks d question) found = outcome_of (answer_to d question state) state

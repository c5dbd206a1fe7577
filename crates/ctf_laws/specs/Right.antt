-- The correct replies and effects of a request, given the library before it. Source: ours.
use Rattle.std.specs.Prelude.{◌≡◌, ℕ, ◌+◌, List, [], ◌∷◌, ◌++◌, length, is_some, nat_lt, Option, None, Some, Result, Ok, codes, if◌then◌else◌}
use Rattle.std.specs.Option.{ForSome, option_map}
use Rattle.ctf_model.specs.drafts.Adders.{Added, add_enumerator, add_label, add_member, add_type}
use Rattle.ctf_model.specs.drafts.Drafts.{Draft, rollback, content, new_draft, commit}
use Rattle.ctf_model.specs.format.Dictionary.{Denotes, Dictionary}
use Rattle.ctf_model.specs.format.Lists.{Lists}
use Rattle.ctf_model.specs.opened.Open.{pending_in}
use Rattle.ctf_model.specs.opened.Steps.{silent}
use Rattle.ctf_model.specs.rules.Refusals.{placeless}
use Rattle.ctf_model.specs.spaces.Imports.{import_fault}
use Rattle.ctf_model.specs.spaces.Kept.{Kept, modelled_by}
use Rattle.ctf_model.specs.spaces.Space.{Space}
use Rattle.ctf_model.specs.writing.Written.{lists_of, written}
use Rattle.ctf_model.specs.declared.data_model.DataModel.{DataModel}
use Rattle.ctf_model.specs.declared.faults.Fault.{Fault}
use Rattle.ctf_model.specs.declared.faults.TheConstants.Fault.{FIXED_PARENT, NAME_TAKEN, NOT_PUBLISHED, NOT_UPDATED, NO_SLOT, READ_ONLY, SLOTS_FULL, STAGE_FULL}
use Rattle.ctf_protocol.specs.answers.Answers.{Answer, number, says}
use Rattle.ctf_protocol.specs.answers.HeldAnswers.{bytes_fields, info_fields, model_fields}
use Rattle.ctf_protocol.specs.answers.Questions.{type_answered}
use Rattle.ctf_protocol.specs.answers.SlotAnswers.{whole_answered}
use Rattle.ctf_protocol.specs.sessions.Additions.{addition_answered, asked_body}
use Rattle.ctf_protocol.specs.sessions.Creations.{Created}
use Rattle.ctf_protocol.specs.sessions.DraftSteps.{model_made}
use Rattle.ctf_protocol.specs.sessions.Publications.{published_as, published_without}
use Rattle.ctf_protocol.specs.sessions.Slots.{has_room, slot_at, slots_with, slots_with_parent, slots_without}
use Rattle.ctf_protocol.specs.sessions.State.{Slot, State, empty_stage, empty_state}
use Rattle.ctf_protocol.specs.sessions.Steps.{longest_list, list_in, with_staged}
use Rattle.ctf_protocol.specs.declared.additions.Addition.{Addition}
use Rattle.ctf_protocol.specs.declared.additions.Addition.TheVariants as add
use Rattle.ctf_protocol.specs.declared.questions.HeldQuestion.TheVariants as about
use Rattle.ctf_protocol.specs.declared.questions.Question.{Question}
use Rattle.ctf_protocol.specs.declared.questions.Question.TheVariants.{OfHeld, OfSlot, OfType}
use Rattle.ctf_protocol.specs.declared.requests.Change.TheVariants as change
use Rattle.ctf_protocol.specs.declared.requests.DraftStep.TheVariants as draft
use Rattle.ctf_protocol.specs.declared.requests.ListName.{ListName}
use Rattle.ctf_protocol.specs.declared.requests.Request.{Request}
use Rattle.ctf_protocol.specs.declared.requests.Request.TheVariants.{Asks, Changes}
use Rattle.ctf_laws.specs.Endings.{Ending, Finds, Gives, Grants, GrantsWithin, Judges, Needs, RefusesBy, RefusesWhere}
use Rattle.ctf_laws.specs.GoodLaws.{IsDenoted}

-- ---- denoted dictionaries

-- the lists denote this dictionary and no other
pub record DenotesJust (lists : Lists) (d : Dictionary) : Type 0 where
  pub denoted : Denotes lists d
  pub only : (other : Dictionary) → Denotes lists other → other ≡ d

-- the lists of a slot and its parent denote this space and no other
pub record HasJust (slot : Slot) (s : Space) : Type 0 where
  pub denoted : IsDenoted slot s
  pub only : (other : Space) → IsDenoted slot other → other ≡ s

-- ---- questions

-- the answer to a question, given the dictionary of the slot
abbrev pub answer_from : Question → Slot → Space → Result Answer Fault
answer_from (OfType t question) slot s = type_answered question s t.0
answer_from (OfSlot question) slot s = whole_answered question s
answer_from (OfHeld about.Info) slot s =
    Ok (info_fields s.own (is_some slot.draft) (is_some slot.parent) (pending_in slot.draft))
answer_from (OfHeld about.Model) slot s = Ok (model_fields s.model)
answer_from (OfHeld (about.Bytes from count)) slot s =
    Ok (bytes_fields from count slot.kept.lists.ctf)

-- the slot's lists denote one dictionary, and the question is answered from it; a draft's lists
-- denote its content at its last update
pub record IsAnsweredOf (slot : Slot) (question : Question) (old : State)
    (said : Result Answer Fault) (new : State) : Type 0 where
  pub dictionary : Space
  pub denoted : HasJust slot dictionary
  pub told : said ≡ answer_from question slot dictionary
  pub held : ForSome slot.draft (λ d. dictionary.own ≡ content (rollback d))
  pub stays : new ≡ old

-- ---- the stage: part, check, open

-- a part is appended to a staged list
abbrev pub Stages : ListName → List ℕ → State → Ending
Stages list bytes old said new =
    RefusesWhere (nat_lt longest_list (length bytes)) STAGE_FULL old
    (GrantsWithin old (says (codes "length") (number (length bytes)) ∷ [])
    (record old { stage = with_staged list bytes old.stage })) said new

-- a library with one more slot, with the next number
abbrev pub with_slot_of : Slot → State → State
with_slot_of slot state = record state {
  slots = state.slots ++ slot ∷ [];
  next = state.next + 1;
}

-- a slot with a dictionary, without parent and draft
abbrev pub slot_opened : ℕ → Kept → Slot
slot_opened n kept = record { number = n; kept = kept; parent = None; draft = None }

-- the answer for a new slot: its number, and its number of types
abbrev pub slot_answer : ℕ → Dictionary → Answer
slot_answer n dictionary =
    says (codes "d") (number n) ∷ says (codes "types") (number (length dictionary.terms)) ∷ []

-- the lists denote one dictionary, which is in a new last slot; the stage is cleared
pub record IsOpened (kept : Kept) (old : State) (answer : Answer) (new : State) : Type 0 where
  pub dictionary : Dictionary
  pub denoted : DenotesJust kept.lists dictionary
  pub told : answer ≡ slot_answer old.next dictionary
  pub stands : new
      ≡ with_slot_of (slot_opened old.next kept) (record old { stage = empty_stage })

-- if there is a free slot, the staged lists are checked
abbrev pub Opens : DataModel → State → Ending
Opens model old said new =
    Needs (has_room old) SLOTS_FULL old
    (Judges old.stage old (IsOpened (record { lists = old.stage; model = model }) old)) said new

-- ---- take

-- the publication denotes one dictionary, which is in a new slot
pub record IsTaken (kept : Kept) (old : State) (said : Result Answer Fault)
    (new : State) : Type 0 where
  pub dictionary : Dictionary
  pub denoted : DenotesJust kept.lists dictionary
  pub granted : GrantsWithin old (slot_answer old.next dictionary)
      (with_slot_of (slot_opened old.next kept) old) said new

abbrev pub Takes : Option Kept → State → Ending
Takes found old said new =
    Needs (has_room old) SLOTS_FULL old
    (Finds found NOT_PUBLISHED old (λ kept. IsTaken kept old)) said new

-- ---- import

-- a draft's parent is fixed; otherwise the rules of an import are checked in order on the
-- dictionaries of both slots
pub record IsImported (child parent : Slot) (d : ℕ) (old : State) (said : Result Answer Fault)
    (new : State) : Type 0 where
  pub own : Dictionary
  pub own_denoted : DenotesJust child.kept.lists own
  pub over : Dictionary
  pub over_denoted : DenotesJust parent.kept.lists over
  pub judged : RefusesBy
      (if is_some child.draft then Some (placeless FIXED_PARENT)
      else import_fault (record {
        child = record { dictionary = own; model = child.kept.model };
        parent = record { dictionary = over; model = parent.kept.model };
      }))
      old
      (GrantsWithin old []
      (record old { slots = slots_with_parent d parent.kept old.slots }))
      said new

abbrev pub Imports : ℕ → Option Slot → Option Slot → State → Ending
Imports d child parent old said new =
    Finds child NO_SLOT old (λ child.
    Finds parent NO_SLOT old (λ parent.
    IsImported child parent d old)) said new

-- ---- publish

-- publishes the current dictionary of a slot, unless its draft has pending additions
abbrev pub PublishesIts : Slot → List ℕ → State → Ending
PublishesIts slot name old said new =
    RefusesWhere (nat_lt 0 (pending_in slot.draft)) NOT_UPDATED old
    (RefusesWhere (is_some (published_as name old.published)) NAME_TAKEN old
    (GrantsWithin old []
    (record old {
      published = old.published ++ record { name = name; kept = slot.kept } ∷ [];
    }))) said new

-- ---- create and update

-- a slot with these bytes, written from the whole draft
abbrev pub slot_written : ℕ → Option Kept → Draft → List ℕ → Slot
slot_written n parent d bytes = record {
  number = n;
  kept = record { lists = lists_of bytes; model = d.model };
  parent = parent;
  draft = Some (commit d);
}

-- the bytes denote the whole content of the draft
pub record WritesDraft (d : Draft) (bytes : List ℕ) (answer : Answer) (would old : State)
    (said : Result Answer Fault) (new : State) : Type 0 where
  pub denoted : DenotesJust (lists_of bytes) (content d)
  pub granted : GrantsWithin old answer would said new

-- a new draft is written at once, while it is empty
abbrev pub WritesNew : Option Kept → State → Draft → Ending
WritesNew parent old d said new =
    Gives (written (content d)) old (λ bytes.
    WritesDraft d bytes (says (codes "d") (number old.next) ∷ [])
    (with_slot_of (slot_written old.next parent d bytes) old) old) said new

abbrev pub CreatesOver : Option Kept → Created → State → Ending
CreatesOver parent asked old said new =
    Needs (has_room old) SLOTS_FULL old
    (Gives
    (new_draft (option_map modelled_by parent) asked.parname asked.parlabel
    (model_made parent asked))
    old (WritesNew parent old)) said new

-- makes a draft over the current dictionary of a slot, or without a parent
abbrev pub Creates : Option ℕ → Created → State → Ending
Creates None asked old said new = CreatesOver None asked old said new
Creates (Some p) asked old said new =
    Finds (slot_at p old.slots) NO_SLOT old (λ slot. CreatesOver (Some slot.kept) asked old)
    said new

-- the draft in a slot, or a refusal
abbrev pub OnDraft : Option Slot → State → (Slot → Draft → Ending) → Ending
OnDraft slot old Then said new =
    Finds slot NO_SLOT old (λ slot.
    Finds slot.draft READ_ONLY old (Then slot)) said new

-- the library with this slot in place of slot `d`
abbrev pub with_slot_at : ℕ → Slot → State → State
with_slot_at d slot state = record state { slots = slots_with d slot state.slots }

-- answers the number of types in a dictionary
abbrev pub types_answer : Dictionary → Answer
types_answer dictionary = says (codes "types") (number (length dictionary.terms)) ∷ []

abbrev pub Updates : ℕ → State → Slot → Draft → Ending
Updates n old slot d said new =
    Gives (written (content d)) old (λ bytes.
    WritesDraft d bytes (types_answer (content d))
    (with_slot_at n (slot_written slot.number slot.parent d bytes) old) old) said new

-- ---- add and discard

-- the draft after an addition
abbrev pub draft_with : Addition → Draft → Result Added Fault
draft_with (add.Type name root kind) d =
    add_type d (record { name = name; root = root; body = asked_body kind })
draft_with (add.Member t name tnum offset) d = add_member d t.0 name tnum.0 offset
draft_with (add.Enumerator t name value) d =
    silent (add_enumerator d t.0 (record { name = name; value = value }))
draft_with (add.Label name last) d = silent (add_label d (record { name = name; last = last }))

-- the slot has a new draft; its bytes are unchanged, and denote the draft's content at its last
-- update
pub record IsDrafted (n : ℕ) (slot : Slot) (d now : Draft) (answer : Answer) (old : State)
    (said : Result Answer Fault) (new : State) : Type 0 where
  pub denoted : DenotesJust slot.kept.lists (content (rollback now))
  pub granted : Grants answer (with_slot_at n (record slot { draft = Some now }) old) said new

abbrev pub Adds : ℕ → Addition → State → Slot → Draft → Ending
Adds n addition old slot d said new =
    Gives (draft_with addition d) old (λ added.
    IsDrafted n slot d added.draft (addition_answered addition added.answer) old) said new

abbrev pub Discards : ℕ → State → Slot → Draft → Ending
Discards n old slot d said new =
    IsDrafted n slot d (rollback d) (types_answer (content (rollback d))) old said new

-- ---- every request

-- the correct reply to a request and the library afterwards, given the library before and the
-- publication found by a take
abbrev pub IsRight : State → Request → Option Kept → Ending
IsRight old (Asks d question) found said new =
    Finds (slot_at d old.slots) NO_SLOT old (λ slot. IsAnsweredOf slot question old) said new
IsRight old (Changes (change.Part list piece)) found said new =
    Stages list (list_in list old.stage ++ piece) old said new
IsRight old (Changes change.Check) found said new =
    Judges old.stage old (λ answer left. (answer ≡ []) × (left ≡ old)) said new
IsRight old (Changes (change.Open model)) found said new = Opens model old said new
IsRight old (Changes change.Clear) found said new =
    Grants [] (record old { stage = empty_stage }) said new
IsRight old (Changes change.Reset) found said new =
    Grants [] (record empty_state { published = old.published }) said new
IsRight old (Changes (change.Close d)) found said new =
    Finds (slot_at d old.slots) NO_SLOT old
    (λ slot. Grants [] (record old { slots = slots_without d old.slots })) said new
IsRight old (Changes (change.Import d p)) found said new =
    Imports d (slot_at d old.slots) (slot_at p old.slots) old said new
IsRight old (Changes (change.Publish d name)) found said new =
    Finds (slot_at d old.slots) NO_SLOT old (λ slot. PublishesIts slot name old) said new
IsRight old (Changes (change.Withdraw name)) found said new =
    Needs (is_some (published_as name old.published)) NOT_PUBLISHED old
    (Grants [] (record old { published = published_without name old.published })) said new
IsRight old (Changes (change.Take owner name)) found said new = Takes found old said new
IsRight old (Changes (change.Create asked)) found said new = Creates asked.parent asked old said new
IsRight old (Changes (change.Draft d (draft.Add addition))) found said new =
    OnDraft (slot_at d old.slots) old (Adds d addition old) said new
IsRight old (Changes (change.Draft d draft.Update)) found said new =
    OnDraft (slot_at d old.slots) old (Updates d old) said new
IsRight old (Changes (change.Draft d draft.Discard)) found said new =
    OnDraft (slot_at d old.slots) old (Discards d old) said new

-- ---- uniqueness

-- there is only one correct reply and library
abbrev pub RightIsOne : Type 0
RightIsOne =
    (old : State) (request : Request) (found : Option Kept) (said other : Result Answer Fault)
    (new left : State) → IsRight old request found said new
    → IsRight old request found other left → (said ≡ other) × (new ≡ left)

-- Every refusal of a request is in the table.
use Rattle.std.proofs.Common.{◌≡◌, ℕ, List, length, Bool, true, false, Option, Some, None, Result, Ok, Err, refl}
use Rattle.std.specs.Prelude.{is_some, nat_lt, slice_get, if◌then◌else◌}
use Rattle.std.specs.Option.{option_map}
use Rattle.serde_json.specs.Data.{Data}
use Rattle.ctf_model.specs.drafts.Adders.{Added, add_enumerator, add_label}
use Rattle.ctf_model.specs.drafts.Drafts.{Draft, content, new_draft}
use Rattle.ctf_model.specs.figures.Figures.{align, referred_type, resolved_type, size}
use Rattle.ctf_model.specs.figures.Paths.{path}
use Rattle.ctf_model.specs.format.Dictionary.{Dictionary}
use Rattle.ctf_model.specs.format.Shown.{Facts, array_in, encoding_in, enumerators_in, facts, members_in}
use Rattle.ctf_model.specs.format.Term.{Term}
use Rattle.ctf_model.specs.names.Lookups.{lookup, pointer_to}
use Rattle.ctf_model.specs.names.TypeNames.{spelled_name}
use Rattle.ctf_model.specs.rules.Faults.{first_fault}
use Rattle.ctf_model.specs.rules.Refusals.{placeless}
use Rattle.ctf_model.specs.spaces.Kept.{Kept, fault_over, modelled_by}
use Rattle.ctf_model.specs.spaces.Space.{Space, space_type}
use Rattle.ctf_model.specs.symbols.SymbolQuestions.{function_in, function_of, label_of, last_of_label, object_in, object_of, signature_of_function, symbol_found, info_of_symbol, type_of_object, or_refused}
use Rattle.ctf_model.specs.symbols.Symbols.{Symbol, is_function, is_object}
use Rattle.ctf_model.specs.values.Values.{value_text}
use Rattle.ctf_model.specs.writing.Written.{written}
use Rattle.ctf_model.specs.declared.data_model.DataModel.{DataModel}
use Rattle.ctf_model.specs.declared.faults.Fault.{Fault}
use Rattle.ctf_model.specs.declared.faults.TheConstants.Fault.{FIXED_PARENT, LONG_LINE, NO_INFO, NO_LABEL, NO_SYMBOL, NOT_DATA, NOT_FUNCTION, WRONG_KIND}
use Rattle.ctf_protocol.proofs.TableCodes.{either, good, good_fault, refused}
use Rattle.ctf_protocol.proofs.TableDrafts.{dictionary_good, enumerator_added, import_good, label_added, member_added, new_good, type_added, written_good}
use Rattle.ctf_protocol.proofs.TableFigures.{align_good, path_good, referred_good, resolved_good, size_good, type_good}
use Rattle.ctf_protocol.proofs.TableTexts.{lookup_good, name_good, pointer_good, value_good}
use Rattle.ctf_protocol.specs.answers.Answers.{Answer}
use Rattle.ctf_model.specs.opened.Open.{Open, pending_in}
use Rattle.ctf_model.specs.opened.Steps.{Stepped, with_count, created, discarded_if, discard_step, enlarged_as, enlarged_if, import_refusal, settled_as, silent, step_update, updated_if, updated_over}
use Rattle.ctf_protocol.specs.answers.Questions.{align_fields, array_fields, as_fields, encoding_fields, enumerator_fields, member_fields, name_fields, plain_answered, position_fields, answer_of, facts_answer, signature_fields, size_fields, type_fields, type_answered, value_fields}
use Rattle.ctf_protocol.specs.answers.SlotAnswers.{last_fields, symbol_fields, whole_answered}
use Rattle.ctf_protocol.specs.lines.Ask.{ask, asked_by, json, or_bad_request, request_asked, value_asked}
use Rattle.ctf_protocol.specs.sessions.Additions.{apply_addition}
use Rattle.ctf_protocol.specs.sessions.Charges.{charge}
use Rattle.ctf_protocol.specs.sessions.Creations.{Created}
use Rattle.ctf_protocol.specs.sessions.DraftSteps.{created_slot, model_made, slot_step}
use Rattle.ctf_protocol.specs.sessions.Opened.{open_of, slot_made, slot_stepped}
use Rattle.ctf_protocol.specs.sessions.Publications.{published_as}
use Rattle.ctf_protocol.specs.sessions.RefusalLaws.{BadLinesAreInTheTable}
use Rattle.ctf_protocol.specs.sessions.State.{Slot, State}
use Rattle.ctf_protocol.proofs.StepWords.{accepts_unless, adds_created, creates_from, creates_over, imports_into, imports_unless, opens_unless, publishes_slot, publishes_within, takes_found, with_slot}
use Rattle.ctf_protocol.specs.sessions.Outcomes.{Outcome, quota, within_quota}
use Rattle.ctf_protocol.specs.sessions.SlotQuestions.{answer_of_slot, slot_answered, slot_space}
use Rattle.ctf_protocol.specs.sessions.Slots.{adds_slot, has_room, slot_at}
use Rattle.ctf_protocol.specs.sessions.Steps.{becomes_by, longest_list, opens, slot_becomes, stages, takes, updates_within, withdraws}
use Rattle.ctf_protocol.specs.declared.additions.Addition.{Addition}
use Rattle.ctf_protocol.specs.declared.additions.Addition.TheVariants as add
use Rattle.ctf_protocol.specs.declared.questions.PlainQuestion.{PlainQuestion}
use Rattle.ctf_protocol.specs.declared.questions.PlainQuestion.TheVariants as plain
use Rattle.ctf_protocol.specs.declared.questions.Question.{Question}
use Rattle.ctf_protocol.specs.declared.questions.Question.TheVariants.{OfHeld, OfSlot, OfType}
use Rattle.ctf_protocol.specs.declared.questions.SlotQuestion.{SlotQuestion}
use Rattle.ctf_protocol.specs.declared.questions.SlotQuestion.TheVariants as whole
use Rattle.ctf_protocol.specs.declared.questions.TypeQuestion.{TypeQuestion}
use Rattle.ctf_protocol.specs.declared.questions.TypeQuestion.TheVariants as about
use Rattle.ctf_protocol.specs.declared.requests.DraftStep.{DraftStep}
use Rattle.ctf_protocol.specs.declared.requests.DraftStep.TheVariants as steps
use Rattle.ctf_protocol.specs.declared.requests.ListName.{ListName}
use Rattle.ctf_protocol.specs.declared.requests.Request.{Request}

-- ---- questions

fields_good : {A : Type 0} → (say : A → Answer) (r : Result A Fault) → good r ≡ true → good (as_fields say r) ≡ true
fields_good say (Err f) g = g
fields_good say (Ok a) g = refl

kind_good : {A : Type 0} → (say : A → Answer) (o : Option A) → good (as_fields say (or_refused WRONG_KIND o)) ≡ true
kind_good say None = refl
kind_good say (Some a) = refl

plain_good : (q : PlainQuestion) (s : Space) (t : ℕ) (x : Facts) → good (plain_answered q s t x) ≡ true
plain_good plain.Kind s t x = refl
plain_good plain.Record s t x = refl
plain_good plain.Args s t x = kind_good signature_fields _
plain_good plain.Array s t x = kind_good array_fields (array_in x.shape.behind)
plain_good plain.Encoding s t x = kind_good encoding_fields (encoding_in x.shape.behind)
plain_good plain.Reference s t x = fields_good type_fields (referred_type x.shape) (referred_good x.shape)
plain_good plain.Resolve s t x = fields_good type_fields (resolved_type s t) (resolved_good s t)
plain_good plain.Size s t x = fields_good size_fields (size s t) (size_good s t)
plain_good plain.Align s t x = fields_good align_fields (align s t) (align_good s t)
plain_good plain.Name s t x = fields_good name_fields (spelled_name s t) (name_good s t)
plain_good plain.Pointer s t x = fields_good type_fields (pointer_to s t) (pointer_good s t)

on_good : (q : TypeQuestion) (s : Space) (t : ℕ) (x : Facts) → good (facts_answer q s t x) ≡ true
on_good (about.Plain q) s t x = plain_good q s t x
on_good (about.Members window) s t x = kind_good (member_fields window) (members_in x.shape.behind)
on_good (about.Enumerators window) s t x = kind_good (enumerator_fields window) (enumerators_in x.shape.behind)
on_good (about.Path names) s t x = fields_good position_fields (path s t names) (path_good s t names)
on_good (about.Show memory offset) s t x = fields_good value_fields (value_text s memory t offset) (value_good s memory t offset)

of_good : (q : TypeQuestion) (s : Space) (t : ℕ) (r : Result Term Fault) → good r ≡ true → good (answer_of q s t r) ≡ true
of_good q s t (Ok x) g = on_good q s t (facts x)
of_good q s t (Err f) g = g

type_asked : (q : TypeQuestion) (s : Space) (t : ℕ) → good (type_answered q s t) ≡ true
type_asked q s t = of_good q s t (space_type s t) (type_good s t)

object_good : (d : Dictionary) (n : ℕ) (x : Option Symbol) → good (object_in d n x) ≡ true
object_good d n None = refl
object_good d n (Some x) = either (is_object x) (or_refused NO_INFO (type_of_object (info_of_symbol d.entries n))) (Err (placeless NOT_DATA)) (refused NO_INFO (type_of_object (info_of_symbol d.entries n)) refl) refl

function_good : (d : Dictionary) (n : ℕ) (x : Option Symbol) → good (function_in d n x) ≡ true
function_good d n None = refl
function_good d n (Some x) = either (is_function x) (or_refused NO_INFO (signature_of_function (info_of_symbol d.entries n))) (Err (placeless NOT_FUNCTION)) (refused NO_INFO (signature_of_function (info_of_symbol d.entries n)) refl) refl

slot_asked : (q : SlotQuestion) (s : Space) → good (whole_answered q s) ≡ true
slot_asked (whole.Find text) s = fields_good type_fields (lookup s text) (lookup_good s text)
slot_asked (whole.Symbol name) s = fields_good symbol_fields (symbol_found s.own name) (refused NO_SYMBOL _ refl)
slot_asked (whole.Object n) s = fields_good type_fields (object_of s.own n) (object_good s.own n (slice_get s.own.symbols n))
slot_asked (whole.Function n) s = fields_good signature_fields (function_of s.own n) (function_good s.own n (slice_get s.own.symbols n))
slot_asked (whole.Labels window) s = refl
slot_asked (whole.Label name) s = fields_good last_fields (label_of s.own name) (refused NO_LABEL (last_of_label s.own.labels name) refl)

in_slot : (q : Question) (slot : Slot) → good (slot_answered q slot) ≡ true
in_slot (OfType t q) slot = type_asked q (slot_space slot) t.0
in_slot (OfSlot q) slot = slot_asked q (slot_space slot)
in_slot (OfHeld q) slot = refl

pub by_slot : (q : Question) (slot : Option Slot) → good (answer_of_slot q slot) ≡ true
by_slot q None = refl
by_slot q (Some slot) = in_slot q slot

-- ---- changes

abbrev pub right : Outcome → Bool
right outcome = good outcome.reply.outcome

either_right : (t : Bool) (a b : Outcome) → right a ≡ true → right b ≡ true → right (if t then a else b) ≡ true
either_right true a b ga gb = ga
either_right false a b ga gb = gb

within : (outcome : Outcome) (state : State) → right outcome ≡ true → right (within_quota outcome state) ≡ true
within outcome state g = either_right (nat_lt quota (charge outcome.state)) _ outcome refl g

pub staged_right : (list : ListName) (bytes : List ℕ) (state : State) → right (stages list bytes state) ≡ true
staged_right list bytes state = either_right (nat_lt longest_list (length bytes)) _ _ refl (within _ state refl)

pub accepted : (fault : Option Fault) (state : State) → good_fault fault ≡ true → right (accepts_unless fault state) ≡ true
accepted None state g = refl
accepted (Some f) state g = g

opened : (fault : Option Fault) (kept : Kept) (state : State) → good_fault fault ≡ true → right (opens_unless fault kept state) ≡ true
opened None kept state g = refl
opened (Some f) kept state g = g

pub opens_right : (model : DataModel) (state : State) → right (opens model state) ≡ true
opens_right model state = either_right (has_room state) (opens_unless (first_fault state.stage) (record { lists = state.stage; model = model }) state) _ (opened (first_fault state.stage) (record { lists = state.stage; model = model }) state (dictionary_good state.stage)) refl

pub at_slot : (does : Slot → Outcome) (slot : Option Slot) (state : State) → ((s : Slot) → right (does s) ≡ true) → right (with_slot does slot state) ≡ true
at_slot does None state h = refl
at_slot does (Some slot) state h = h slot

imported : (fault : Option Fault) (d : ℕ) (parent : Kept) (state : State) → good_fault fault ≡ true → right (imports_unless fault d parent state) ≡ true
imported None d parent state g = within _ state refl
imported (Some f) d parent state g = g

refusal_good : (drafted : Bool) (fault : Option Fault) → good_fault fault ≡ true → good_fault (if drafted then Some (placeless FIXED_PARENT) else fault) ≡ true
refusal_good true fault g = refl
refusal_good false fault g = g

pub import_right : (child : Slot) (d : ℕ) (parent : Slot) (state : State) → right (imports_into child d parent state) ≡ true
import_right child d parent state = imported (import_refusal (open_of child) (open_of parent)) d parent.kept state (refusal_good (is_some child.draft) (fault_over child.kept parent.kept) (import_good (record { child = modelled_by child.kept; parent = modelled_by parent.kept })))

publish_right : (name : List ℕ) (kept : Kept) (state : State) → right (publishes_within name kept state) ≡ true
publish_right name kept state = either_right (is_some (published_as name state.published)) _ _ refl (within _ state refl)

pub publish_slot : (name : List ℕ) (slot : Slot) (state : State) → right (publishes_slot name slot state) ≡ true
publish_slot name slot state = either_right (nat_lt 0 (pending_in slot.draft)) _ (publishes_within name slot.kept state) refl (publish_right name slot.kept state)

pub withdrawn : (name : List ℕ) (state : State) → right (withdraws name state) ≡ true
withdrawn name state = either_right (is_some (published_as name state.published)) _ _ refl refl

taken : (found : Option Kept) (state : State) → right (takes_found found state) ≡ true
taken None state = refl
taken (Some kept) state = within (adds_slot kept state) state refl

pub takes_right : (found : Option Kept) (state : State) → right (takes found state) ≡ true
takes_right found state = either_right (has_room state) (takes_found found state) _ (taken found state) refl

-- ---- drafts

settled_good : (parent : Option Kept) (d : Draft) (r : Result (List ℕ) Fault) → good r ≡ true → good (settled_as parent d r) ≡ true
settled_good parent d (Ok bytes) g = refl
settled_good parent d (Err f) g = g

over_good : (parent : Option Kept) (r : Result Draft Fault) → good r ≡ true → good (updated_over parent r) ≡ true
over_good parent (Ok d) g = settled_good parent d (written (content d)) (written_good (content d))
over_good parent (Err f) g = g

made_good : (number : ℕ) (r : Result Open Fault) → good r ≡ true → good (slot_made number r) ≡ true
made_good number (Ok o) g = refl
made_good number (Err f) g = g

created_good : (number : ℕ) (parent : Option Kept) (asked : Created) → good (created_slot number parent asked) ≡ true
unfolding created_slot created
created_good number parent asked = made_good number (updated_over parent (new_draft (option_map modelled_by parent) asked.parname asked.parlabel (model_made parent asked))) (over_good parent (new_draft (option_map modelled_by parent) asked.parname asked.parlabel (model_made parent asked)) (new_good (option_map modelled_by parent) asked.parname asked.parlabel (model_made parent asked)))

adds_right : (r : Result Slot Fault) (state : State) → good r ≡ true → right (adds_created r state) ≡ true
adds_right (Ok slot) state g = within _ state refl
adds_right (Err f) state g = g

over_right : (parent : Option Kept) (asked : Created) (state : State) → right (creates_over parent asked state) ≡ true
over_right parent asked state = either_right (has_room state) (adds_created (created_slot state.next parent asked) state) _ (adds_right (created_slot state.next parent asked) state (created_good state.next parent asked)) refl

pub from_right : (parent : Option ℕ) (asked : Created) (state : State) → right (creates_from parent asked state) ≡ true
from_right None asked state = over_right None asked state
from_right (Some p) asked state = at_slot (λ slot. creates_over (Some slot.kept) asked state) (slot_at p state.slots) state (λ slot. over_right (Some slot.kept) asked state)

silent_good : (r : Result Draft Fault) → good r ≡ true → good (silent r) ≡ true
silent_good (Ok draft) g = refl
silent_good (Err f) g = g

enlarged_good : (o : Open) (adds : Draft → Result Added Fault) (draft : Option Draft) → ((d : Draft) → good (adds d) ≡ true) → good (enlarged_if o adds draft) ≡ true
enlarged_good o adds None g = refl
enlarged_good o adds (Some d) g = by (adds d) (g d)
  where
    by : (r : Result Added Fault) → good r ≡ true → good (enlarged_as o r) ≡ true
    by (Ok apply_addition) h = refl
    by (Err f) h = h

added_good : (o : Open) (x : Addition) → good (apply_addition x o) ≡ true
added_good o (add.Type name root kind) = enlarged_good o _ o.draft (λ d. type_added d _)
added_good o (add.Member t name tnum offset) = enlarged_good o _ o.draft (λ d. member_added d t.0 name tnum.0 offset)
added_good o (add.Enumerator t name value) = enlarged_good o _ o.draft (λ d. silent_good (add_enumerator d t.0 _) (enumerator_added d t.0 _))
added_good o (add.Label name last) = enlarged_good o _ o.draft (λ d. silent_good (add_label d _) (label_added d _))

counted_good : (r : Result Open Fault) → good r ≡ true → good (with_count r) ≡ true
counted_good (Ok o) g = refl
counted_good (Err f) g = g

updated_good : (parent : Option Kept) (draft : Option Draft) → good (updated_if parent draft) ≡ true
updated_good parent None = refl
updated_good parent (Some d) = counted_good (settled_as parent d (written (content d))) (settled_good parent d (written (content d)) (written_good (content d)))

dropped_good : (o : Open) (draft : Option Draft) → good (discarded_if o draft) ≡ true
dropped_good o None = refl
dropped_good o (Some d) = refl

stepped_good : (say : ℕ → Answer) (slot : Slot) (r : Result Stepped Fault) → good r ≡ true → good (slot_stepped say slot r).said ≡ true
stepped_good say slot (Ok step) g = refl
stepped_good say slot (Err f) g = g

step_good : (x : DraftStep) (slot : Slot) → good (slot_step x slot).said ≡ true
unfolding slot_step
step_good (steps.Add addition) slot = stepped_good _ slot (apply_addition addition (open_of slot)) (added_good (open_of slot) addition)
step_good steps.Update slot = stepped_good _ slot (step_update (open_of slot)) (updated_good slot.parent slot.draft)
step_good steps.Discard slot = stepped_good _ slot (discard_step (open_of slot)) (dropped_good (open_of slot) slot.draft)

updates_right : (said : Result Answer Fault) (outcome : Outcome) (state : State) → right outcome ≡ true → right (updates_within said outcome state) ≡ true
updates_right (Ok answer) outcome state g = within outcome state g
updates_right (Err f) outcome state g = g

pub becomes_right : (x : DraftStep) (d : ℕ) (slot : Slot) (state : State) → right (becomes_by x d (slot_step x slot) state) ≡ true
becomes_right (steps.Add addition) d slot state = step_good (steps.Add addition) slot
becomes_right steps.Update d slot state = updates_right (slot_step steps.Update slot).said (slot_becomes d (slot_step steps.Update slot) state) state (step_good steps.Update slot)
becomes_right steps.Discard d slot state = step_good steps.Discard slot

-- ---- lines

abbrev read_right : Result (ℕ × Request) (ℕ × Fault) → Bool
read_right (Ok asked) = true
read_right (Err refusal) = good_fault (Some refusal.1)

request_read : (s : ℕ) (request : Option Request) → read_right (or_bad_request s request) ≡ true
request_read s None = refl
request_read s (Some request) = refl

session_read : (line : Data) (s : Option ℕ) → read_right (asked_by line s) ≡ true
session_read line None = refl
session_read line (Some s) = request_read s (request_asked line)

value_read : (line : Option Data) → read_right (value_asked line) ≡ true
value_read None = refl
value_read (Some line) = session_read line _

either_read : (t : Bool) (a b : Result (ℕ × Request) (ℕ × Fault)) → read_right a ≡ true → read_right b ≡ true → read_right (if t then a else b) ≡ true
either_read true a b ga gb = ga
either_read false a b ga gb = gb

line_read : (line : List ℕ) → read_right (ask line) ≡ true
unfolding ask
line_read line = either_read _ (Err (0, placeless LONG_LINE)) (value_asked (json line)) refl (value_read (json line))

pub bad_lines : BadLinesAreInTheTable
bad_lines line session fault e =
    let right_line = line_read line in
    rw e at right_line

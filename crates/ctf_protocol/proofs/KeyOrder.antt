-- The keys of each answer are in byte order.
use Rattle.std.proofs.Common.{◌≡◌, ℕ, Bool, true, false, List, [], ◌∷◌, ◌++◌, map, take, drop, Option, None, Some, Result, Ok, Err, codes, refl, sym, ap, ◌∙◌}
use Rattle.std.specs.Prelude.{◌&&◌, is_some, nat_lt, length}
use Rattle.std.specs.List.{list_all}
use Rattle.std.specs.Cmp.Derive.{both_true}
use Rattle.std.proofs.lemmas.List.{take-append-drop}
use Rattle.std.proofs.lemmas.List.Folds.{list_all-append}
use Rattle.ctf_model.specs.opened.Questions.{array_answered, encoding_answered, enumerators_answered, members_answered, signature_answered}
use Rattle.ctf_protocol.specs.sessions.Additions.{apply_addition, addition_answered}
use Rattle.ctf_protocol.specs.sessions.Creations.{Created}
use Rattle.ctf_protocol.specs.sessions.DraftSteps.{created_slot, slot_step}
use Rattle.ctf_protocol.specs.sessions.Opened.{SlotOutcome, open_of, slot_stepped}
use Rattle.ctf_model.specs.opened.Open.{pending_in}
use Rattle.ctf_model.specs.opened.Steps.{Stepped, discard_step, import_refusal, step_update}
use Rattle.ctf_protocol.specs.declared.additions.Addition.{Addition}
use Rattle.ctf_protocol.specs.declared.additions.Addition.TheVariants as add
use Rattle.ctf_protocol.specs.answers.Answers.{Answer, Item, Single, number, truth, word, text, says, may_say}
use Rattle.ctf_model.specs.rules.Faults.{first_fault}
use Rattle.ctf_model.specs.names.Lookups.{lookup, pointer_to}
use Rattle.ctf_model.specs.names.KindNames.{name_of_kind}
use Rattle.ctf_model.specs.figures.Figures.{align, referred_type, resolved_type, size}
use Rattle.ctf_protocol.specs.answers.KeyOrder.{item_in_order, in_order, IsInOrder}
use Rattle.ctf_model.specs.spaces.Kept.{Kept}
use Rattle.ctf_model.specs.figures.Paths.{path}
use Rattle.ctf_protocol.specs.sessions.Publications.{published_as}
use Rattle.ctf_protocol.specs.answers.Questions.{at_most, window_of, as_fields, member_fields, member_item, enumerator_fields, enumerator_item, number_item, argument_fields, array_fields, encoding_fields, signature_fields, type_fields, size_fields, align_fields, name_fields, position_fields, value_fields, plain_answered, facts_answer, answer_of}
use Rattle.ctf_protocol.specs.answers.SlotAnswers.{symbol_fields, label_item, last_fields, whole_answered}
use Rattle.ctf_model.specs.symbols.SymbolQuestions.{symbol_found, object_of, function_of, label_of}
use Rattle.ctf_model.specs.format.Shown.{Facts, facts, list_length, named_arguments}
use Rattle.ctf_protocol.specs.sessions.Charges.{charge}
use Rattle.ctf_protocol.specs.sessions.State.{State, Slot}
use Rattle.ctf_protocol.proofs.StepWords.{with_slot, imports_unless, publishes_within, publishes_slot, imports_into, takes_found, adds_created, creates_over, creates_from, opens_unless, accepts_unless}
use Rattle.ctf_protocol.specs.sessions.Outcomes.{grants, within_quota, quota, Outcome}
use Rattle.ctf_protocol.specs.sessions.SlotQuestions.{slot_space, answer_of_slot}
use Rattle.ctf_protocol.specs.sessions.Slots.{slots_without, has_room, slot_at}
use Rattle.ctf_protocol.specs.sessions.Steps.{publishes_kept, becomes_by, updates_within, withdraws, takes, stages, opens, longest_list}
use Rattle.ctf_model.specs.spaces.Space.{Space, space_type}
use Rattle.ctf_model.specs.format.Term.{Term}
use Rattle.ctf_model.specs.names.TypeNames.{spelled_name}
use Rattle.ctf_model.specs.values.Values.{value_text}
use Rattle.ctf_model.specs.declared.data_model.DataModel.{DataModel}
use Rattle.ctf_model.specs.declared.faults.Fault.{Fault}
use Rattle.ctf_protocol.specs.declared.questions.Question.TheVariants.{OfType, OfSlot, OfHeld}
use Rattle.ctf_protocol.specs.declared.questions.HeldQuestion.TheVariants as holding
use Rattle.ctf_protocol.specs.declared.questions.SlotQuestion.{SlotQuestion}
use Rattle.ctf_protocol.specs.declared.questions.SlotQuestion.TheVariants as whole
use Rattle.ctf_protocol.specs.declared.questions.PlainQuestion.{PlainQuestion}
use Rattle.ctf_protocol.specs.declared.questions.PlainQuestion.TheVariants as plain
use Rattle.ctf_protocol.specs.declared.questions.TypeQuestion.{TypeQuestion}
use Rattle.ctf_protocol.specs.declared.questions.TypeQuestion.TheVariants as ask
use Rattle.ctf_protocol.specs.declared.questions.Question.{Question}
use Rattle.ctf_protocol.specs.declared.questions.Window.{Window}
use Rattle.ctf_protocol.specs.declared.requests.ListName.{ListName}
use Rattle.ctf_protocol.specs.declared.requests.DraftStep.{DraftStep}
use Rattle.ctf_protocol.specs.declared.requests.DraftStep.TheVariants as steps

-- ---- items

parts_true : (a b : Bool) → (a && b) ≡ true → (a ≡ true) × (b ≡ true)
parts_true true b h = (refl, h)
parts_true false b h = absurd cc

-- a fact of all items holds for the first ones and for the rest
halves : (n : ℕ) (items : List Item) → list_all item_in_order items ≡ true → (list_all item_in_order (take n items) ≡ true) × (list_all item_in_order (drop n items) ≡ true)
halves n items h = parts_true _ _ (sym (list_all-append item_in_order (take n items) (drop n items)) ∙ ap (list_all item_in_order) (take-append-drop n items) ∙ h)

some_items : (count : Option ℕ) (items : List Item) → list_all item_in_order items ≡ true → list_all item_in_order (at_most count items) ≡ true
some_items None items h = h
some_items (Some n) items h = (halves n items h).0

in_window : (window : Window) (items : List Item) → list_all item_in_order items ≡ true → list_all item_in_order (window_of window items) ≡ true
in_window window items h = some_items window.count (drop window.from items) (halves window.from items h).1

each : {A : Type 0} (item : A → Item) → ((a : A) → item_in_order (item a) ≡ true) → (xs : List A) → list_all item_in_order (map item xs) ≡ true
each item one [] = refl
each item one (x ∷ xs) = both_true (one x) (each item one xs)

-- ---- questions on types

-- an answer, or a refusal
figure : {A : Type 0} (say : A → Answer) → ((a : A) → in_order (say a) ≡ true) → (r : Result A Fault) → IsInOrder (as_fields say r)
figure say good (Ok a) = good a
figure say good (Err fault) = tt

listed : (items : List Item) (rest : Bool) → list_all item_in_order items ≡ true → rest ≡ true → (list_all item_in_order items && rest) ≡ true
listed items rest h r = both_true h r

arguments_rise : (ret : ℕ) (args : List ℕ) → in_order (argument_fields ret args) ≡ true
arguments_rise ret args = listed (map number_item (named_arguments args)) true (each number_item (λ n. refl) (named_arguments args)) refl

-- a head with each choice of size, tag and type
head : (k n r v : Single) (size tag t : Option Single) → in_order (says (codes "kind") k ∷ says (codes "name") n ∷ says (codes "root") r ∷ (may_say (codes "size") size ++ (may_say (codes "tag") tag ++ (may_say (codes "type") t ++ says (codes "vlen") v ∷ [])))) ≡ true
head k n r v None None None = refl
head k n r v None None (Some t) = refl
head k n r v None (Some tag) None = refl
head k n r v None (Some tag) (Some t) = refl
head k n r v (Some size) None None = refl
head k n r v (Some size) None (Some t) = refl
head k n r v (Some size) (Some tag) None = refl
head k n r v (Some size) (Some tag) (Some t) = refl

on_plain : (question : PlainQuestion) (s : Space) (t : ℕ) (x : Facts) → IsInOrder (plain_answered question s t x)
on_plain plain.Kind s t x = refl
on_plain plain.Record s t x = head (word (name_of_kind x.shape.kind)) (text x.name) (truth x.root) (number (list_length x.shape.behind)) _ _ _
on_plain plain.Args s t x = figure signature_fields (λ f. arguments_rise f.ret f.args) (signature_answered x.shape)
on_plain plain.Array s t x = figure array_fields (λ a. refl) (array_answered x.shape)
on_plain plain.Encoding s t x = figure encoding_fields (λ a. refl) (encoding_answered x.shape)
on_plain plain.Reference s t x = figure type_fields (λ n. refl) (referred_type x.shape)
on_plain plain.Resolve s t x = figure type_fields (λ n. refl) (resolved_type s t)
on_plain plain.Size s t x = figure size_fields (λ n. refl) (size s t)
on_plain plain.Align s t x = figure align_fields (λ n. refl) (align s t)
on_plain plain.Name s t x = figure name_fields (λ name. refl) (spelled_name s t)
on_plain plain.Pointer s t x = figure type_fields (λ n. refl) (pointer_to s t)

on_type : (question : TypeQuestion) (s : Space) (t : ℕ) (x : Facts) → IsInOrder (facts_answer question s t x)
on_type (ask.Plain question) s t x = on_plain question s t x
on_type (ask.Members window) s t x = figure (member_fields window) (λ ms. listed (window_of window (map member_item ms)) true (in_window window (map member_item ms) (each member_item (λ m. refl) ms)) refl) (members_answered x.shape)
on_type (ask.Enumerators window) s t x = figure (enumerator_fields window) (λ es. listed (window_of window (map enumerator_item es)) true (in_window window (map enumerator_item es) (each enumerator_item (λ e. refl) es)) refl) (enumerators_answered x.shape)
on_type (ask.Path names) s t x = figure position_fields (λ at. refl) (path s t names)
on_type (ask.Show memory offset) s t x = figure value_fields (λ shown. refl) (value_text s memory t offset)

of_type : (question : TypeQuestion) (s : Space) (t : ℕ) (found : Result Term Fault) → IsInOrder (answer_of question s t found)
of_type question s t (Ok x) = on_type question s t (facts x)
of_type question s t (Err fault) = tt

on_whole : (question : SlotQuestion) (s : Space) → IsInOrder (whole_answered question s)
on_whole (whole.Find written) s = figure type_fields (λ n. refl) (lookup s written)
on_whole (whole.Symbol name) s = figure symbol_fields (λ e. refl) (symbol_found s.own name)
on_whole (whole.Object n) s = figure type_fields (λ t. refl) (object_of s.own n)
on_whole (whole.Function n) s = figure signature_fields (λ f. arguments_rise f.ret f.args) (function_of s.own n)
on_whole (whole.Labels window) s = listed (window_of window (map label_item s.own.labels)) true (in_window window (map label_item s.own.labels) (each label_item (λ x. refl) s.own.labels)) refl
on_whole (whole.Label name) s = figure last_fields (λ n. refl) (label_of s.own name)

pub of_slot : (question : Question) (slot : Option Slot) → IsInOrder (answer_of_slot question slot)
of_slot question None = tt
of_slot (OfType t question) (Some slot) = of_type question (slot_space slot) t.0 (space_type (slot_space slot) t.0)
of_slot (OfSlot question) (Some slot) = on_whole question (slot_space slot)
of_slot (OfHeld holding.Info) (Some slot) = refl
of_slot (OfHeld holding.Model) (Some slot) = refl
of_slot (OfHeld (holding.Bytes from count)) (Some slot) = refl

-- ---- changes

quoted : (over : Bool) (outcome : Outcome) (state : State) → nat_lt quota (charge outcome.state) ≡ over → IsInOrder outcome.reply.outcome → IsInOrder (within_quota outcome state).reply.outcome
quoted true outcome state e h = rw e tt
quoted false outcome state e h = rw e h

pub staging : (list : ListName) (bytes : List ℕ) (state : State) (long : Bool) → nat_lt longest_list (length bytes) ≡ long → IsInOrder (stages list bytes state).reply.outcome
staging list bytes state true e = rw e tt
staging list bytes state false e = rw e (quoted _ _ state refl refl)

opened : (fault : Option Fault) (kept : Kept) (state : State) → IsInOrder (opens_unless fault kept state).reply.outcome
opened None kept state = refl
opened (Some fault) kept state = tt

pub opening : (model : DataModel) (state : State) (room : Bool) → has_room state ≡ room → IsInOrder (opens model state).reply.outcome
opening model state true e = rw e (opened (first_fault state.stage) (record { lists = state.stage; model = model }) state)
opening model state false e = rw e tt

pub accepted : (fault : Option Fault) (state : State) → IsInOrder (accepts_unless fault state).reply.outcome
accepted None state = refl
accepted (Some fault) state = tt

pub closed : (d : ℕ) (slot : Option Slot) (state : State) → IsInOrder (with_slot (λ s. grants [] (record state { slots = slots_without d state.slots })) slot state).reply.outcome
closed d None state = tt
closed d (Some slot) state = refl

imported : (fault : Option Fault) (d : ℕ) (parent : Kept) (state : State) → IsInOrder (imports_unless fault d parent state).reply.outcome
imported None d parent state = quoted _ _ state refl refl
imported (Some fault) d parent state = tt

pub importing : (d : ℕ) (child parent : Option Slot) (state : State) → IsInOrder (with_slot (λ c. with_slot (λ p. imports_into c d p state) parent state) child state).reply.outcome
importing d None parent state = tt
importing d (Some c) None state = tt
importing d (Some c) (Some p) state = imported (import_refusal (open_of c) (open_of p)) d p.kept state

published : (taken : Bool) (name : List ℕ) (kept : Kept) (state : State) → is_some (published_as name state.published) ≡ taken → IsInOrder (publishes_kept name kept state).reply.outcome
published true name kept state e = rw e tt
published false name kept state e = rw e refl

pub withdrawn : (there : Bool) (name : List ℕ) (state : State) → is_some (published_as name state.published) ≡ there → IsInOrder (withdraws name state).reply.outcome
withdrawn true name state e = rw e refl
withdrawn false name state e = rw e tt

published_within : (taken : Bool) (name : List ℕ) (kept : Kept) (state : State) → is_some (published_as name state.published) ≡ taken → IsInOrder (publishes_within name kept state).reply.outcome
published_within true name kept state e = rw e tt
published_within false name kept state e = rw e (quoted _ _ state refl refl)

publish_of : (late : Bool) (name : List ℕ) (slot : Slot) (state : State) → nat_lt 0 (pending_in slot.draft) ≡ late → IsInOrder (publishes_slot name slot state).reply.outcome
publish_of true name slot state e = rw e tt
publish_of false name slot state e = rw e (published_within _ name slot.kept state refl)

pub publishing : (name : List ℕ) (slot : Option Slot) (state : State) → IsInOrder (with_slot (λ s. publishes_slot name s state) slot state).reply.outcome
publishing name None state = tt
publishing name (Some slot) state = publish_of _ name slot state refl

taken : (found : Option Kept) (state : State) → IsInOrder (takes_found found state).reply.outcome
taken None state = tt
taken (Some kept) state = quoted _ _ state refl refl

pub taking : (found : Option Kept) (state : State) (room : Bool) → has_room state ≡ room → IsInOrder (takes found state).reply.outcome
taking found state true e = rw e (taken found state)
taking found state false e = rw e tt

-- ---- drafts

created : (slot : Result Slot Fault) (state : State) → IsInOrder (adds_created slot state).reply.outcome
created (Ok slot) state = quoted _ _ state refl refl
created (Err fault) state = tt

created_over : (room : Bool) (parent : Option Kept) (asked : Created) (state : State) → has_room state ≡ room → IsInOrder (creates_over parent asked state).reply.outcome
created_over true parent asked state e = rw e (created (created_slot state.next parent asked) state)
created_over false parent asked state e = rw e tt

created_on : (slot : Option Slot) (asked : Created) (state : State) → IsInOrder (with_slot (λ s. creates_over (Some s.kept) asked state) slot state).reply.outcome
created_on None asked state = tt
created_on (Some slot) asked state = created_over _ (Some slot.kept) asked state refl

pub created_from : (parent : Option ℕ) (asked : Created) (state : State) → IsInOrder (creates_from parent asked state).reply.outcome
created_from None asked state = created_over _ None asked state refl
created_from (Some p) asked state = created_on (slot_at p state.slots) asked state

stepped : (say : ℕ → Answer) (slot : Slot) → ((n : ℕ) → in_order (say n) ≡ true) → (r : Result Stepped Fault) → IsInOrder (slot_stepped say slot r).said
stepped say slot good (Ok step) = good step.answer
stepped say slot good (Err fault) = tt

adding : (addition : Addition) (n : ℕ) → in_order (addition_answered addition n) ≡ true
adding (add.Type name root kind) n = refl
adding (add.Member t name tnum offset) n = refl
adding (add.Enumerator t name value) n = refl
adding (add.Label name last) n = refl

of_draft : (step : DraftStep) (slot : Slot) → IsInOrder (slot_step step slot).said
unfolding slot_step
of_draft (steps.Add addition) slot = stepped (addition_answered addition) slot (adding addition) (apply_addition addition (open_of slot))
of_draft steps.Update slot = stepped _ slot (λ n. refl) (step_update (open_of slot))
of_draft steps.Discard slot = stepped _ slot (λ n. refl) (discard_step (open_of slot))

updated_within : (said : Result Answer Fault) (outcome : Outcome) (state : State) → IsInOrder outcome.reply.outcome → IsInOrder (updates_within said outcome state).reply.outcome
updated_within (Ok answer) outcome state h = quoted _ outcome state refl h
updated_within (Err fault) outcome state h = h

becoming : (d : ℕ) (step : DraftStep) (outcome : SlotOutcome) (state : State) → IsInOrder outcome.said → IsInOrder (becomes_by step d outcome state).reply.outcome
becoming d (steps.Add addition) outcome state h = h
becoming d steps.Update outcome state h = updated_within outcome.said _ state h
becoming d steps.Discard outcome state h = h

pub stepping : (d : ℕ) (step : DraftStep) (slot : Option Slot) (state : State) → IsInOrder (with_slot (λ s. becomes_by step d (slot_step step s) state) slot state).reply.outcome
stepping d step None state = tt
stepping d step (Some slot) state = becoming d step (slot_step step slot) state (of_draft step slot)

-- Only one outcome of a request is correct.
use Rattle.std.proofs.Common.{◌≡◌, inl, inr, ℕ, List, [], Bool, true, false, Option, Some, None, Result, Ok, Err, ltb, ap, sym, subst, ◌∙◌, ◌∷◌, ◌++◌, length, is_some, codes, refl, arith}
use Rattle.std.specs.Prelude.{nat_lt}
use Rattle.std.specs.Option.{option_map}
use Rattle.std.proofs.lemmas.Bool.{ltb-false, ltb-true}
use Rattle.ctf_model.specs.drafts.Drafts.{Draft, rollback, content, new_draft}
use Rattle.ctf_model.specs.format.Dictionary.{Dictionary}
use Rattle.ctf_model.specs.format.Lists.{Lists}
use Rattle.ctf_model.specs.rules.Rules.{IsBroken, IsFirstFault}
use Rattle.ctf_model.specs.opened.Open.{pending_in}
use Rattle.ctf_model.specs.spaces.Kept.{Kept, modelled_by}
use Rattle.ctf_model.specs.spaces.Space.{Space}
use Rattle.ctf_model.specs.writing.Written.{written}
use Rattle.ctf_model.specs.declared.data_model.DataModel.{DataModel}
use Rattle.ctf_model.specs.declared.faults.Fault.{Fault}
use Rattle.ctf_model.specs.declared.faults.TheConstants.Fault.{NAME_TAKEN, NOT_PUBLISHED, NOT_UPDATED, NO_SLOT, READ_ONLY, SLOTS_FULL, STAGE_FULL}
use Rattle.ctf_protocol.specs.answers.Answers.{Answer, number, says}
use Rattle.ctf_protocol.specs.sessions.Additions.{addition_answered}
use Rattle.ctf_protocol.specs.sessions.Creations.{Created}
use Rattle.ctf_protocol.specs.sessions.DraftSteps.{model_made}
use Rattle.ctf_protocol.specs.sessions.Opened.{under}
use Rattle.ctf_protocol.specs.sessions.Publications.{published_as, published_without}
use Rattle.ctf_protocol.specs.sessions.Slots.{has_room, slot_at, slots_without}
use Rattle.ctf_protocol.specs.sessions.State.{Slot, State, empty_stage, empty_state}
use Rattle.ctf_protocol.specs.sessions.Steps.{longest_list, list_in, with_staged}
use Rattle.ctf_protocol.specs.declared.additions.Addition.{Addition}
use Rattle.ctf_protocol.specs.declared.questions.Question.{Question}
use Rattle.ctf_protocol.specs.declared.requests.Change.TheVariants as change
use Rattle.ctf_protocol.specs.declared.requests.DraftStep.TheVariants as steps
use Rattle.ctf_protocol.specs.declared.requests.ListName.{ListName}
use Rattle.ctf_protocol.specs.declared.requests.Request.{Request}
use Rattle.ctf_protocol.specs.declared.requests.Request.TheVariants.{Asks, Changes}
use Rattle.ctf_laws.specs.Endings.{Ending, Finds, Gives, Grants, GrantsWithin, Judges, Needs, Refuses, RefusesBy, RefusesWhere}
use Rattle.ctf_laws.specs.Right.{Adds, Creates, CreatesOver, Discards, Imports, IsAnsweredOf, IsDrafted, IsImported, IsOpened, IsRight, IsTaken, OnDraft, Opens, PublishesIts, RightIsOne, Stages, Takes, Updates, WritesDraft, WritesNew, draft_with, answer_from, slot_answer, slot_written, types_answer, with_slot_at, with_slot_of}

-- an ending determines the answer and the library
abbrev One : Ending → Type 0
One R = (a b : Result Answer Fault) (m n : State) → R a m → R b n → (a ≡ b) × (m ≡ n)

-- ---- the ways to end

grants_one : (answer : Answer) (would : State) → One (Grants answer would)
grants_one answer would a b m n h k = (h.0 ∙ sym k.0, h.1 ∙ sym k.1)

refuses_one : (f : Fault) (old : State) → One (Refuses f old)
refuses_one f old a b m n h k = (h.0 ∙ sym k.0, h.1 ∙ sym k.1)

within_one : (old : State) (answer : Answer) (would : State) → One (GrantsWithin old answer would)
within_one old answer would a b m n (inl h) (inl k) = grants_one answer would a b m n h.1 k.1
within_one old answer would a b m n (inr h) (inr k) = (h.1.0 ∙ sym k.1.0, h.1.1 ∙ sym k.1.1)
within_one old answer would a b m n (inl h) (inr k) = absurd (omega (arith, h.0, k.0))
within_one old answer would a b m n (inr h) (inl k) = absurd (omega (arith, h.0, k.0))

where_one : (t : Bool) (code : ℕ) (old : State) (R : Ending) → One R → One (RefusesWhere t code old R)
where_one true code old R one a b m n h k = (h.0 ∙ sym k.0, h.1 ∙ sym k.1)
where_one false code old R one a b m n h k = one a b m n h k

needs_one : (t : Bool) (code : ℕ) (old : State) (R : Ending) → One R → One (Needs t code old R)
needs_one true code old R one a b m n h k = one a b m n h k
needs_one false code old R one a b m n h k = (h.0 ∙ sym k.0, h.1 ∙ sym k.1)

by_one : (fault : Option Fault) (old : State) (R : Ending) → One R → One (RefusesBy fault old R)
by_one None old R one a b m n h k = one a b m n h k
by_one (Some f) old R one a b m n h k = (h.0 ∙ sym k.0, h.1 ∙ sym k.1)

finds_one : {A : Type 0} → (x : Option A) (code : ℕ) (old : State) (R : A → Ending) → ((y : A) → One (R y)) → One (Finds x code old R)
finds_one None code old R one a b m n h k = (h.0 ∙ sym k.0, h.1 ∙ sym k.1)
finds_one (Some x) code old R one a b m n h k = one x a b m n h k

gives_one : {A : Type 0} → (r : Result A Fault) (old : State) (R : A → Ending) → ((y : A) → One (R y)) → One (Gives r old R)
gives_one (Ok x) old R one a b m n h k = one x a b m n h k
gives_one (Err f) old R one a b m n h k = (h.0 ∙ sym k.0, h.1 ∙ sym k.1)

-- ---- checks

codes_in_order : (s : Lists) (f g : Fault) → IsFirstFault s f → IsFirstFault s g → (t : Bool) → ltb f.code g.code ≡ t → (u : Bool) → ltb g.code f.code ≡ u → f.code ≡ g.code
codes_in_order s f g h k true t u v = absurd (k.earlier f.code (ltb-true f.code g.code t) f.place h.broken)
codes_in_order s f g h k false t true v = absurd (h.earlier g.code (ltb-true g.code f.code v) g.place k.broken)
codes_in_order s f g h k false t false v = omega (arith, ltb-false f.code g.code t, ltb-false g.code f.code v)

places_in_order : (s : Lists) (f g : Fault) → IsFirstFault s f → IsFirstFault s g → f.code ≡ g.code → (t : Bool) → ltb f.place g.place ≡ t → (u : Bool) → ltb g.place f.place ≡ u → f.place ≡ g.place
places_in_order s f g h k e true t u v = absurd (k.least f.place (ltb-true f.place g.place t) (subst (λ (c : ℕ). IsBroken s c f.place) e h.broken))
places_in_order s f g h k e false t true v = absurd (h.least g.place (ltb-true g.place f.place v) (subst (λ (c : ℕ). IsBroken s c g.place) (sym e) k.broken))
places_in_order s f g h k e false t false v = omega (arith, ltb-false f.place g.place t, ltb-false g.place f.place v)

fault_with : (f g : Fault) → f.code ≡ g.code → f.place ≡ g.place → f ≡ g
fault_with f g c p = ap (λ (x : ℕ). record { code = x; place = f.place }) c ∙ ap (λ (x : ℕ). record { code = g.code; place = x }) p

one_first : (s : Lists) (f g : Fault) → IsFirstFault s f → IsFirstFault s g → f ≡ g
one_first s f g h k =
    let c = codes_in_order s f g h k (ltb f.code g.code) refl (ltb g.code f.code) refl in
    fault_with f g c (places_in_order s f g h k c (ltb f.place g.place) refl (ltb g.place f.place) refl)

judges_one : (s : Lists) (old : State) (G : Answer → State → Type 0) → ((x y : Answer) (m n : State) → G x m → G y n → (x ≡ y) × (m ≡ n)) → One (Judges s old G)
judges_one s old G one (Err f) (Err g) m n h k = (ap (λ (x : Fault). Err x) (one_first s f g h.0 k.0), h.1 ∙ sym k.1)
judges_one s old G one (Err f) (Ok b) m n h k = absurd (k.0 f.code f.place h.0.broken)
judges_one s old G one (Ok a) (Err g) m n h k = absurd (h.0 g.code g.place k.0.broken)
judges_one s old G one (Ok a) (Ok b) m n h k =
    let same = one a b m n h.1 k.1 in
    (ap (λ (x : Answer). Ok x) same.0, same.1)

-- ---- requests

answered_one : (slot : Slot) (question : Question) (old : State) → One (IsAnsweredOf slot question old)
answered_one slot question old a b m n h k = (
  h.told ∙ ap (λ (s : Space). answer_from question slot s) (k.denoted.only h.dictionary h.denoted.denoted) ∙ sym k.told,
  h.stays ∙ sym k.stays,
)

opened_one : (kept : Kept) (old : State) (x y : Answer) (m n : State) → IsOpened kept old x m → IsOpened kept old y n → (x ≡ y) × (m ≡ n)
opened_one kept old x y m n h k = (
  h.told ∙ ap (λ (d : Dictionary). slot_answer old.next d) (k.denoted.only h.dictionary h.denoted.denoted) ∙ sym k.told,
  h.stands ∙ sym k.stands,
)

taken_one : (kept : Kept) (old : State) → One (IsTaken kept old)
taken_one kept old a b m n h k = within_one old (slot_answer old.next k.dictionary) _ a b m n (subst (λ (d : Dictionary). GrantsWithin old (slot_answer old.next d) _ a m) (k.denoted.only h.dictionary h.denoted.denoted) h.granted) k.granted

imported_one : (child parent : Slot) (d : ℕ) (old : State) → One (IsImported child parent d old)
imported_one child parent d old a b m n h k =
    let own = k.own_denoted.only h.own h.own_denoted.denoted in
    let over = k.over_denoted.only h.over h.over_denoted.denoted in
    by_one _ old _ (within_one old [] _) a b m n (rw (own, over) at h.judged) k.judged

writes_one : (d : Draft) (bytes : List ℕ) (answer : Answer) (would old : State) → One (WritesDraft d bytes answer would old)
writes_one d bytes answer would old a b m n h k = within_one old answer would a b m n h.granted k.granted

drafted_one : (i : ℕ) (slot : Slot) (d now : Draft) (answer : Answer) (old : State) → One (IsDrafted i slot d now answer old)
drafted_one i slot d now answer old a b m n h k = grants_one answer _ a b m n h.granted k.granted

on_draft_one : (slot : Option Slot) (old : State) (R : Slot → Draft → Ending) → ((s : Slot) (d : Draft) → One (R s d)) → One (OnDraft slot old R)
on_draft_one slot old R one = finds_one slot NO_SLOT old (λ s. Finds s.draft READ_ONLY old (R s)) (λ s. finds_one s.draft READ_ONLY old (R s) (one s))

new_one : (parent : Option Kept) (old : State) (d : Draft) → One (WritesNew parent old d)
new_one parent old d = gives_one (written (content d)) old (λ bytes. WritesDraft d bytes (under (codes "d") old.next) (with_slot_of (slot_written old.next parent d bytes) old) old) (λ bytes. writes_one d bytes (under (codes "d") old.next) (with_slot_of (slot_written old.next parent d bytes) old) old)

over_one : (parent : Option Kept) (asked : Created) (old : State) → One (CreatesOver parent asked old)
over_one parent asked old =
    let r = new_draft (option_map modelled_by parent) asked.parname asked.parlabel (model_made parent asked) in
    needs_one (has_room old) SLOTS_FULL old (Gives r old (WritesNew parent old)) (gives_one r old (WritesNew parent old) (new_one parent old))

creates_one : (parent : Option ℕ) (asked : Created) (old : State) → One (Creates parent asked old)
creates_one None asked old = over_one None asked old
creates_one (Some p) asked old = finds_one (slot_at p old.slots) NO_SLOT old (λ slot. CreatesOver (Some slot.kept) asked old) (λ slot. over_one (Some slot.kept) asked old)

updates_one : (i : ℕ) (old : State) (slot : Slot) (d : Draft) → One (Updates i old slot d)
updates_one i old slot d = gives_one (written (content d)) old (λ bytes. WritesDraft d bytes (types_answer (content d)) (with_slot_at i (slot_written slot.number slot.parent d bytes) old) old) (λ bytes. writes_one d bytes (types_answer (content d)) (with_slot_at i (slot_written slot.number slot.parent d bytes) old) old)

adds_one : (i : ℕ) (addition : Addition) (old : State) (slot : Slot) (d : Draft) → One (Adds i addition old slot d)
adds_one i addition old slot d = gives_one (draft_with addition d) old (λ r. IsDrafted i slot d r.draft (addition_answered addition r.answer) old) (λ r. drafted_one i slot d r.draft (addition_answered addition r.answer) old)

discards_one : (i : ℕ) (old : State) (slot : Slot) (d : Draft) → One (Discards i old slot d)
discards_one i old slot d = drafted_one i slot d (rollback d) (types_answer (content (rollback d))) old

stages_one : (list : ListName) (bytes : List ℕ) (old : State) → One (Stages list bytes old)
stages_one list bytes old =
    let would = record old { stage = with_staged list bytes old.stage } in
    let answer = says (codes "length") (number (length bytes)) ∷ [] in
    where_one (nat_lt longest_list (length bytes)) STAGE_FULL old (GrantsWithin old answer would) (within_one old answer would)

opens_one : (model : DataModel) (old : State) → One (Opens model old)
opens_one model old =
    let kept : Kept = record { lists = old.stage; model = model } in
    needs_one (has_room old) SLOTS_FULL old (Judges old.stage old (IsOpened kept old)) (judges_one old.stage old (IsOpened kept old) (opened_one kept old))

imports_one : (d : ℕ) (child parent : Option Slot) (old : State) → One (Imports d child parent old)
imports_one d child parent old = finds_one child NO_SLOT old (λ c. Finds parent NO_SLOT old (λ p. IsImported c p d old)) (λ c. finds_one parent NO_SLOT old (λ p. IsImported c p d old) (λ p. imported_one c p d old))

published_one : (slot : Slot) (name : List ℕ) (old : State) → One (PublishesIts slot name old)
published_one slot name old =
    let would = record old { published = old.published ++ record { name = name; kept = slot.kept } ∷ [] } in
    let R = GrantsWithin old [] would in
    where_one (nat_lt 0 (pending_in slot.draft)) NOT_UPDATED old (RefusesWhere (is_some (published_as name old.published)) NAME_TAKEN old R) (where_one (is_some (published_as name old.published)) NAME_TAKEN old R (within_one old [] would))

takes_one : (found : Option Kept) (old : State) → One (Takes found old)
takes_one found old = needs_one (has_room old) SLOTS_FULL old (Finds found NOT_PUBLISHED old (λ kept. IsTaken kept old)) (finds_one found NOT_PUBLISHED old (λ kept. IsTaken kept old) (λ kept. taken_one kept old))

withdraws_one : (name : List ℕ) (old : State) → One (IsRight old (Changes (change.Withdraw name)) None)
withdraws_one name old =
    let would = record old { published = published_without name old.published } in
    needs_one (is_some (published_as name old.published)) NOT_PUBLISHED old (Grants [] would) (grants_one [] would)

closes_one : (d : ℕ) (old : State) → One (IsRight old (Changes (change.Close d)) None)
closes_one d old =
    let would = record old { slots = slots_without d old.slots } in
    finds_one (slot_at d old.slots) NO_SLOT old (λ slot. Grants [] would) (λ slot. grants_one [] would)

right_one : (old : State) (request : Request) (found : Option Kept) → One (IsRight old request found)
right_one old (Asks d question) found = finds_one (slot_at d old.slots) NO_SLOT old (λ slot. IsAnsweredOf slot question old) (λ slot. answered_one slot question old)
right_one old (Changes (change.Part list piece)) found = stages_one list (list_in list old.stage ++ piece) old
right_one old (Changes change.Check) found = judges_one old.stage old (λ answer left. (answer ≡ []) × (left ≡ old)) (λ x y s t g e. (g.0 ∙ sym e.0, g.1 ∙ sym e.1))
right_one old (Changes (change.Open model)) found = opens_one model old
right_one old (Changes change.Clear) found = grants_one [] (record old { stage = empty_stage })
right_one old (Changes change.Reset) found = grants_one [] (record empty_state { published = old.published })
right_one old (Changes (change.Close d)) found = closes_one d old
right_one old (Changes (change.Import d p)) found = imports_one d (slot_at d old.slots) (slot_at p old.slots) old
right_one old (Changes (change.Publish d name)) found = finds_one (slot_at d old.slots) NO_SLOT old (λ slot. PublishesIts slot name old) (λ slot. published_one slot name old)
right_one old (Changes (change.Withdraw name)) found = withdraws_one name old
right_one old (Changes (change.Take owner name)) found = takes_one found old
right_one old (Changes (change.Create asked)) found = creates_one asked.parent asked old
right_one old (Changes (change.Draft d (steps.Add addition))) found = on_draft_one (slot_at d old.slots) old (Adds d addition old) (adds_one d addition old)
right_one old (Changes (change.Draft d steps.Update)) found = on_draft_one (slot_at d old.slots) old (Updates d old) (updates_one d old)
right_one old (Changes (change.Draft d steps.Discard)) found = on_draft_one (slot_at d old.slots) old (Discards d old) (discards_one d old)

pub right_is_one : RightIsOne
right_is_one old request found said other new left h k = right_one old request found said other new left h k

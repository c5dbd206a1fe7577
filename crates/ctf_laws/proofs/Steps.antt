-- A request keeps a good library good.
use Rattle.std.proofs.Common.{◌≡◌, ℕ, List, [], ◌∷◌, ◌++◌, Bool, true, false, Option, Some, None, Result, Ok, Err, eqb, refl, ap, sym, subst, ◌∙◌, length, is_some}
use Rattle.std.specs.Prelude.{codes, nat_lt, not, if◌then◌else◌}
use Rattle.std.specs.Option.{ForSome}
use Rattle.ctf_model.proofs.Alls.{all_joined}
use Rattle.ctf_model.proofs.SoundDrafts.{enumerator_sound, label_sound, life_sound, member_sound, type_sound}
use Rattle.ctf_model.specs.drafts.Adders.{Added, add_enumerator, add_label}
use Rattle.ctf_model.specs.drafts.Drafts.{Draft, rollback, content}
use Rattle.ctf_model.specs.opened.Open.{pending_in}
use Rattle.ctf_model.specs.opened.Steps.{with_count, discarded_if, enlarged_as, enlarged_if, import_refusal, settled_as, silent, updated_if}
use Rattle.ctf_model.specs.rules.Faults.{first_fault}
use Rattle.ctf_model.specs.rules.Refusals.{placeless}
use Rattle.ctf_model.specs.spaces.Kept.{Kept, fault_over}
use Rattle.ctf_model.specs.writing.Written.{written}
use Rattle.ctf_model.specs.declared.faults.Fault.{Fault}
use Rattle.ctf_model.specs.declared.faults.TheConstants.Fault.{FIXED_PARENT}
use Rattle.ctf_protocol.specs.answers.Answers.{Answer}
use Rattle.ctf_protocol.specs.sessions.Additions.{apply_addition, addition_answered}
use Rattle.ctf_protocol.specs.sessions.Charges.{charge}
use Rattle.ctf_protocol.specs.sessions.Creations.{Created}
use Rattle.ctf_protocol.specs.sessions.DraftSteps.{created_slot, model_made, slot_step}
use Rattle.ctf_protocol.specs.sessions.Opened.{SlotOutcome, open_of, slot_stepped, slot_with, under}
use Rattle.ctf_protocol.specs.sessions.Publications.{published_as}
use Rattle.ctf_protocol.specs.sessions.State.{Publication, Slot, State}
use Rattle.ctf_protocol.proofs.StepWords.{accepts_unless, adds_created, creates_from, creates_over, imports_unless, opens_unless, publishes_slot, publishes_within, takes_found, with_slot}
use Rattle.ctf_protocol.specs.sessions.Outcomes.{Outcome, quota, within_quota}
use Rattle.ctf_protocol.specs.sessions.Slots.{has_room, slot_at, slots_with_parent}
use Rattle.ctf_protocol.specs.sessions.Steps.{becomes_by, change_step, longest_list, slot_becomes, stages, updates_within, withdraws}
use Rattle.ctf_protocol.specs.declared.additions.Addition.{Addition}
use Rattle.ctf_protocol.specs.declared.additions.Addition.TheVariants as add
use Rattle.ctf_protocol.specs.declared.requests.Change.{Change}
use Rattle.ctf_protocol.specs.declared.requests.Change.TheVariants as change
use Rattle.ctf_protocol.specs.declared.requests.DraftStep.{DraftStep}
use Rattle.ctf_protocol.specs.declared.requests.DraftStep.TheVariants as steps
use Rattle.ctf_protocol.specs.declared.requests.ListName.{ListName}
use Rattle.ctf_protocol.specs.declared.requests.Request.TheVariants.{Asks, Changes}
use Rattle.ctf_laws.proofs.Drafted.{created_good, redrafted, settled_good, type_leaves, member_leaves, enumerator_leaves, label_leaves}
use Rattle.ctf_laws.proofs.Slots.{AllGood, child_good, found_good, new_good, parents_good, with_good, withdrawn_good, without_good}
use Rattle.ctf_laws.specs.Good.{FitsAddition, FitsChange, FitsStep, IsFaultless, IsGood, IsGoodSlot}
use Rattle.ctf_laws.specs.GoodLaws.{LoadsKeepGood, StepsKeepGood}

-- the step keeps the library good
abbrev Leaves : Outcome → Type 0
Leaves outcome = IsGood outcome.state

quoted : (over : Bool) (outcome : Outcome) (state : State) → nat_lt quota (charge outcome.state) ≡ over → IsGood state → Leaves outcome → Leaves (within_quota outcome state)
quoted true outcome state e g h = rw e g
quoted false outcome state e g h = rw e h

within : (outcome : Outcome) (state : State) → IsGood state → Leaves outcome → Leaves (within_quota outcome state)
within outcome state g h = quoted (nat_lt quota (charge outcome.state)) outcome state refl g h

either : (t : Bool) (a b : Outcome) → Leaves a → Leaves b → Leaves (if t then a else b)
either true a b ga gb = ga
either false a b ga gb = gb

-- ---- lists and new slots

staged : (list : ListName) (bytes : List ℕ) (state : State) → IsGood state → Leaves (stages list bytes state)
staged list bytes state g = either (nat_lt longest_list (length bytes)) _ _ g (within _ state g (record { slots = g.slots; published = g.published }))

accepted : (fault : Option Fault) (state : State) → IsGood state → Leaves (accepts_unless fault state)
accepted None state g = g
accepted (Some f) state g = g

slot_added : (number next : ℕ) (kept : Kept) (state : State) → IsGood state → IsFaultless kept → AllGood (state.slots ++ record { number = number; kept = kept; parent = None; draft = None } ∷ [])
slot_added number next kept state g h = all_joined IsGoodSlot state.slots _ g.slots (new_good number kept h, tt)

opened : (fault : Option Fault) (kept : Kept) (state : State) → IsGood state → first_fault kept.lists ≡ fault → Leaves (opens_unless fault kept state)
opened None kept state g h = record { slots = slot_added state.next 0 kept state g h; published = g.published }
opened (Some f) kept state g h = g

taken : (found : Option Kept) (state : State) → IsGood state → ForSome found IsFaultless → Leaves (takes_found found state)
taken None state g h = g
taken (Some kept) state g h = within _ state g (record { slots = slot_added state.next 0 kept state g (h kept refl); published = g.published })

-- ---- slots

at_slot : (does : Slot → Outcome) (d : ℕ) (slot : Option Slot) (state : State) → IsGood state → slot_at d state.slots ≡ slot → ((s : Slot) → IsGoodSlot s → slot_at d state.slots ≡ Some s → Leaves (does s)) → Leaves (with_slot does slot state)
at_slot does d None state g at h = g
at_slot does d (Some slot) state g at h = h slot (found_good d slot state.slots g.slots at) at

refusal_none : (o : Option Draft) (fault : Option Fault) → if is_some o then Some (placeless FIXED_PARENT) else fault ≡ None → (o ≡ None) × (fault ≡ None)
refusal_none None fault e = (refl, e)
refusal_none (Some d) fault e = absurd cc

imported : (fault : Option Fault) (d : ℕ) (parent : Kept) (state : State) → IsGood state → (fault ≡ None → AllGood (slots_with_parent d parent state.slots)) → Leaves (imports_unless fault d parent state)
imported None d parent state g h = within _ state g (record { slots = h refl; published = g.published })
imported (Some f) d parent state g h = g

importing : (d p : ℕ) (state : State) → IsGood state → Leaves (change_step state (change.Import d p) None)
unfolding change_step
importing d p state g =
    at_slot _ d (slot_at d state.slots) state g refl (λ child good at.
    at_slot _ p (slot_at p state.slots) state g refl (λ parent over there.
    imported (import_refusal (open_of child) (open_of parent)) d parent.kept state g (λ none.
    let plain = refusal_none child.draft (fault_over child.kept parent.kept) none in
    parents_good d parent.kept state.slots g.slots (λ y is.
    let same : child ≡ y = by child y at is in
    subst (λ (x : Slot). IsGoodSlot (record x { parent = Some parent.kept })) same (child_good child parent.kept good plain.0 over.faultless plain.1)))))
  where
    by : (child y : Slot) → slot_at d state.slots ≡ Some child → slot_at d state.slots ≡ Some y → child ≡ y
    by child y a b = let same : Some child ≡ Some y = sym a ∙ b in cc

-- ---- publications

named : (name : List ℕ) (kept : Kept) (state : State) → IsGood state → IsFaultless kept → Leaves (publishes_within name kept state)
named name kept state g h = either (is_some (published_as name state.published)) _ _ g (within _ state g (record { slots = g.slots; published = all_joined (λ (p : Publication). IsFaultless p.kept) state.published _ g.published (h, tt) }))

published : (name : List ℕ) (slot : Slot) (state : State) → IsGood state → IsGoodSlot slot → Leaves (publishes_slot name slot state)
published name slot state g h = either (nat_lt 0 (pending_in slot.draft)) _ _ g (named name slot.kept state g h.faultless)

withdrawn : (name : List ℕ) (state : State) → IsGood state → Leaves (withdraws name state)
withdrawn name state g = either (is_some (published_as name state.published)) _ _ (record { slots = g.slots; published = withdrawn_good name state.published g.published }) g

-- ---- drafts

adds : (r : Result Slot Fault) (state : State) → IsGood state → ((slot : Slot) → r ≡ Ok slot → IsGoodSlot slot) → Leaves (adds_created r state)
adds (Ok slot) state g h = within _ state g (record { slots = all_joined IsGoodSlot state.slots _ g.slots (h slot refl, tt); published = g.published })
adds (Err f) state g h = g

over : (parent : Option Kept) (asked : Created) (state : State) → IsGood state → is_some parent ≡ not (eqb (length asked.parname) 0) → ForSome parent IsFaultless → Leaves (creates_over parent asked state)
unfolding created_slot
over parent asked state g there faultless = either (has_room state) _ _ (adds (created_slot state.next parent asked) state g (created_good state.next parent asked.parname asked.parlabel (model_made parent asked) there faultless)) g

from : (parent : Option ℕ) (asked : Created) (state : State) → IsGood state → is_some parent ≡ not (eqb (length asked.parname) 0) → Leaves (creates_from parent asked state)
from None asked state g there = over None asked state g there (λ p e. absurd cc)
from (Some p) asked state g there = at_slot _ p (slot_at p state.slots) state g refl (λ slot good at. over (Some slot.kept) asked state g there (λ q e. let same : slot.kept ≡ q = cc in subst IsFaultless same good.faultless))

-- the step keeps the slot good
abbrev LeavesSlot : SlotOutcome → Type 0
LeavesSlot outcome = IsGoodSlot outcome.slot

enlarged_good : (say : ℕ → Answer) (slot : Slot) (d : Draft) (r : Result Added Fault) → IsGoodSlot slot → ((a : Added) → r ≡ Ok a → IsGoodSlot (slot_with slot.number (record { own = slot.kept; parent = slot.parent; draft = Some a.draft }))) → LeavesSlot (slot_stepped say slot (enlarged_as (open_of slot) r))
enlarged_good say slot d (Ok a) g h = h a refl
enlarged_good say slot d (Err f) g h = g

enlarging : (say : ℕ → Answer) (slot : Slot) (adds : Draft → Result Added Fault) (draft : Option Draft) → slot.draft ≡ draft → IsGoodSlot slot → ((d : Draft) (a : Added) → slot.draft ≡ Some d → adds d ≡ Ok a → IsGoodSlot (slot_with slot.number (record { own = slot.kept; parent = slot.parent; draft = Some a.draft }))) → LeavesSlot (slot_stepped say slot (enlarged_if (open_of slot) adds draft))
enlarging say slot adds None is g h = g
enlarging say slot adds (Some d) is g h = enlarged_good say slot d (adds d) g (λ a e. h d a is e)

abbrev with_no_answer : Draft → Added
with_no_answer d = record { draft = d; answer = 0 }

silent_is : (r : Result Draft Fault) (a : Added) → silent r ≡ Ok a → r ≡ Ok a.draft
silent_is (Ok d) a e =
    let same : with_no_answer d ≡ a = cc in
    ap (λ (b : Added). Ok b.draft) same
silent_is (Err f) a e = absurd cc

adding : (slot : Slot) (x : Addition) → IsGoodSlot slot → FitsAddition x → LeavesSlot (slot_stepped (addition_answered x) slot (apply_addition x (open_of slot)))
adding slot (add.Type name root kind) g fits = enlarging _ slot _ slot.draft refl g (λ d a is e. redrafted slot d a.draft g is (type_sound d _ a (g.draft d is).sound fits e) (type_leaves d _ a e))
adding slot (add.Member t name tnum offset) g fits = enlarging _ slot _ slot.draft refl g (λ d a is e. redrafted slot d a.draft g is (member_sound d t.0 name tnum.0 offset a (g.draft d is).sound e) (member_leaves d t.0 name tnum.0 offset a e))
adding slot (add.Enumerator t name value) g fits = enlarging _ slot _ slot.draft refl g (λ d a is e. let done = silent_is (add_enumerator d t.0 _) a e in redrafted slot d a.draft g is (enumerator_sound d t.0 _ a.draft (g.draft d is).sound fits done) (enumerator_leaves d t.0 _ a.draft done))
adding slot (add.Label name last) g fits = enlarging _ slot _ slot.draft refl g (λ d a is e. let done = silent_is (add_label d _) a e in redrafted slot d a.draft g is (label_sound d _ a.draft (g.draft d is).sound fits done) (label_leaves d _ a.draft done))

writes : (say : ℕ → Answer) (slot : Slot) (d : Draft) (r : Result (List ℕ) Fault) → IsGoodSlot slot → slot.draft ≡ Some d → written (content d) ≡ r → LeavesSlot (slot_stepped say slot (with_count (settled_as slot.parent d r)))
writes say slot d (Err f) g is wrote = g
writes say slot d (Ok bytes) g is wrote =
    let old = g.draft d is in
    settled_good slot.number slot.parent d bytes old.sound old.above old.alike (λ p e. (g.parent p e).faultless) wrote

updating : (slot : Slot) (draft : Option Draft) → slot.draft ≡ draft → IsGoodSlot slot → LeavesSlot (slot_stepped (under (codes "types")) slot (updated_if slot.parent draft))
updating slot None is g = g
updating slot (Some d) is g = writes _ slot d (written (content d)) g is refl

dropping : (slot : Slot) (draft : Option Draft) → slot.draft ≡ draft → IsGoodSlot slot → LeavesSlot (slot_stepped (under (codes "types")) slot (discarded_if (open_of slot) draft))
dropping slot None is g = g
dropping slot (Some d) is g = redrafted slot d (rollback d) g is (life_sound d (g.draft d is).sound).0 refl

stepped : (x : DraftStep) (slot : Slot) → IsGoodSlot slot → FitsStep x → LeavesSlot (slot_step x slot)
unfolding slot_step
stepped (steps.Add addition) slot g fits = adding slot addition g fits
stepped steps.Update slot g fits = updating slot slot.draft refl g
stepped steps.Discard slot g fits = dropping slot slot.draft refl g

becoming : (d : ℕ) (outcome : SlotOutcome) (state : State) → IsGood state → LeavesSlot outcome → Leaves (slot_becomes d outcome state)
becoming d outcome state g h = record { slots = with_good d outcome.slot state.slots h g.slots; published = g.published }

updated_within : (said : Result Answer Fault) (outcome : Outcome) (state : State) → IsGood state → Leaves outcome → Leaves (updates_within said outcome state)
updated_within (Ok answer) outcome state g h = within outcome state g h
updated_within (Err f) outcome state g h = h

drafting : (x : DraftStep) (d : ℕ) (slot : Slot) (state : State) → IsGood state → IsGoodSlot slot → FitsStep x → Leaves (becomes_by x d (slot_step x slot) state)
drafting (steps.Add addition) d slot state g h fits = becoming d (slot_step (steps.Add addition) slot) state g (stepped (steps.Add addition) slot h fits)
drafting steps.Update d slot state g h fits = updated_within (slot_step steps.Update slot).said (slot_becomes d (slot_step steps.Update slot) state) state g (becoming d (slot_step steps.Update slot) state g (stepped steps.Update slot h fits))
drafting steps.Discard d slot state g h fits = becoming d (slot_step steps.Discard slot) state g (stepped steps.Discard slot h fits)

-- ---- every request

changed : (state : State) (c : Change) (found : Option Kept) → IsGood state → FitsChange c → ForSome found IsFaultless → Leaves (change_step state c found)
unfolding change_step
changed state (change.Part list piece) found g fits h = staged list _ state g
changed state change.Check found g fits h = accepted (first_fault state.stage) state g
changed state (change.Open model) found g fits h = either (has_room state) _ _ (opened (first_fault state.stage) (record { lists = state.stage; model = model }) state g refl) g
changed state change.Clear found g fits h = record { slots = g.slots; published = g.published }
changed state change.Reset found g fits h = record { slots = tt; published = g.published }
changed state (change.Close d) found g fits h = at_slot _ d (slot_at d state.slots) state g refl (λ slot good at. record { slots = without_good d state.slots g.slots; published = g.published })
changed state (change.Import d p) found g fits h = importing d p state g
changed state (change.Publish d name) found g fits h = at_slot _ d (slot_at d state.slots) state g refl (λ slot good at. published name slot state g good)
changed state (change.Withdraw name) found g fits h = withdrawn name state g
changed state (change.Take owner name) found g fits h = either (has_room state) _ _ (taken found state g h) g
changed state (change.Create asked) found g fits h = from asked.parent asked state g fits
changed state (change.Draft d x) found g fits h = at_slot _ d (slot_at d state.slots) state g refl (λ slot good at. drafting x d slot state g good fits)

pub steps_keep_good : StepsKeepGood
steps_keep_good state (Changes c) found g fits h = changed state c found g fits h
steps_keep_good state (Asks d question) found g fits h = g

pub loads_keep_good : LoadsKeepGood
loads_keep_good state name kept g h = either (is_some (published_as name state.published)) _ _ g (record { slots = g.slots; published = all_joined (λ (p : Publication). IsFaultless p.kept) state.published _ g.published (h, tt) })

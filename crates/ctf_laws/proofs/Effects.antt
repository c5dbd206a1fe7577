-- The effect of a change on a library, in one of nine ways.
use Rattle.std.proofs.Common.{◌≡◌, ◌+◌, ℕ, List, [], ◌∷◌, ◌++◌, Bool, true, false, Option, Some, None, Result, Ok, Err, refl, ap, ◌∙◌, length, is_some}
use Rattle.std.specs.Prelude.{nat_lt, if◌then◌else◌}
use Rattle.ctf_model.specs.drafts.Adders.{Added}
use Rattle.ctf_model.specs.drafts.Drafts.{Draft, rollback, content, commit}
use Rattle.ctf_model.specs.opened.Open.{Open, own_in, pending_in}
use Rattle.ctf_model.specs.opened.Steps.{Stepped, with_count, discarded_if, discard_step, enlarged_as, enlarged_if, import_refusal, settled_as, step_update, updated_if, with_draft}
use Rattle.ctf_model.specs.rules.Faults.{first_fault}
use Rattle.ctf_model.specs.spaces.Kept.{Kept}
use Rattle.ctf_model.specs.writing.Written.{lists_of, written}
use Rattle.ctf_model.specs.declared.faults.Fault.{Fault}
use Rattle.ctf_protocol.specs.answers.Answers.{Answer}
use Rattle.ctf_protocol.specs.sessions.Additions.{apply_addition}
use Rattle.ctf_protocol.specs.sessions.Charges.{charge}
use Rattle.ctf_protocol.specs.sessions.Creations.{Created}
use Rattle.ctf_protocol.specs.sessions.DraftSteps.{created_slot, slot_step}
use Rattle.ctf_protocol.specs.sessions.Slots.{slots_with}
use Rattle.ctf_protocol.specs.sessions.Opened.{SlotOutcome, open_of, slot_made, slot_stepped, slot_with}
use Rattle.ctf_protocol.specs.sessions.Publications.{published_as, published_without}
use Rattle.ctf_protocol.specs.sessions.State.{Publication, Slot, State}
use Rattle.ctf_protocol.proofs.StepWords.{accepts_unless, adds_created, creates_from, creates_over, imports_unless, opens_unless, publishes_slot, publishes_within, takes_found, with_slot}
use Rattle.ctf_protocol.specs.sessions.Outcomes.{Outcome, quota, within_quota}
use Rattle.ctf_protocol.specs.sessions.Slots.{has_room, slot_at, slots_with_parent, slots_without}
use Rattle.ctf_protocol.specs.sessions.Steps.{becomes_by, change_step, longest_list, slot_becomes, stages, updates_within, withdraws}
use Rattle.ctf_protocol.specs.declared.additions.Addition.{Addition}
use Rattle.ctf_protocol.specs.declared.additions.Addition.TheVariants as add
use Rattle.ctf_protocol.specs.declared.requests.Change.{Change}
use Rattle.ctf_protocol.specs.declared.requests.Change.TheVariants as change
use Rattle.ctf_protocol.specs.declared.requests.DraftStep.{DraftStep}
use Rattle.ctf_protocol.specs.declared.requests.DraftStep.TheVariants as steps
use Rattle.ctf_protocol.specs.declared.requests.ListName.{ListName}

-- slots and the next number are unchanged
pub record SameSlots (old new : State) : Type 0 where
  pub slots : new.slots ≡ old.slots
  pub next : new.next ≡ old.next

-- the possible effects of a change on the slots
pub data OfSlots (c : Change) (old : State) (new : State) : Type 0 where
  stay : SameSlots old new → OfSlots c old new
  one_more : (slot : Slot) → slot.number ≡ old.next → new.slots ≡ old.slots ++ slot ∷ [] → new.next ≡ old.next + 1 → OfSlots c old new
  one_less : (d : ℕ) → c ≡ change.Close d → new.slots ≡ slots_without d old.slots → new.next ≡ old.next → OfSlots c old new
  a_parent : (d p : ℕ) (parent : Kept) → c ≡ change.Import d p → new.slots ≡ slots_with_parent d parent old.slots → new.next ≡ old.next → OfSlots c old new
  a_step : (d : ℕ) (was now : Slot) → slot_at d old.slots ≡ Some was → now.number ≡ was.number → now.parent ≡ was.parent → new.slots ≡ slots_with d now old.slots → new.next ≡ old.next → OfSlots c old new
  none : c ≡ change.Reset → new.slots ≡ [] → OfSlots c old new

-- and on the publications
pub data OfPublished (c : Change) (old : State) (new : State) : Type 0 where
  all_stay : new.published ≡ old.published → OfPublished c old new
  another : (p : Publication) → new.published ≡ old.published ++ p ∷ [] → OfPublished c old new
  withdrawn : (name : List ℕ) → c ≡ change.Withdraw name → new.published ≡ published_without name old.published → OfPublished c old new

pub record Effect (c : Change) (old : State) (new : State) : Type 0 where
  pub slots : OfSlots c old new
  pub published : OfPublished c old new

same : (c : Change) (state : State) → Effect c state state
same c state = record { slots = stay (record { slots = refl; next = refl }); published = all_stay refl }

quoted : (over : Bool) (c : Change) (outcome : Outcome) (state : State) → nat_lt quota (charge outcome.state) ≡ over → Effect c state outcome.state → Effect c state (within_quota outcome state).state
quoted true c outcome state e h = rw e (same c state)
quoted false c outcome state e h = rw e h

within : (c : Change) (outcome : Outcome) (state : State) → Effect c state outcome.state → Effect c state (within_quota outcome state).state
within c outcome state h = quoted (nat_lt quota (charge outcome.state)) c outcome state refl h

either : (t : Bool) (c : Change) (state : State) (a b : Outcome) → Effect c state a.state → Effect c state b.state → Effect c state (if t then a else b).state
either true c state a b ga gb = ga
either false c state a b ga gb = gb

at_slot : (c : Change) (does : Slot → Outcome) (slot : Option Slot) (state : State) → ((s : Slot) → slot ≡ Some s → Effect c state (does s).state) → Effect c state (with_slot does slot state).state
at_slot c does None state h = same c state
at_slot c does (Some s) state h = h s refl

-- ---- lists, new slots, publications

staged : (c : Change) (list : ListName) (bytes : List ℕ) (state : State) → Effect c state (stages list bytes state).state
staged c list bytes state = either (nat_lt longest_list (length bytes)) c state _ _ (same c state) (within c _ state (record { slots = stay (record { slots = refl; next = refl }); published = all_stay refl }))

accepted : (c : Change) (fault : Option Fault) (state : State) → Effect c state (accepts_unless fault state).state
accepted c None state = same c state
accepted c (Some f) state = same c state

pushed : (c : Change) (kept : Kept) (state new : State) → new.slots ≡ state.slots ++ record { number = state.next; kept = kept; parent = None; draft = None } ∷ [] → new.next ≡ state.next + 1 → new.published ≡ state.published → Effect c state new
pushed c kept state new slots next published = record { slots = one_more (record { number = state.next; kept = kept; parent = None; draft = None }) refl slots next; published = all_stay published }

opened : (c : Change) (fault : Option Fault) (kept : Kept) (state : State) → Effect c state (opens_unless fault kept state).state
opened c None kept state = pushed c kept state _ refl refl refl
opened c (Some f) kept state = same c state

taken : (c : Change) (found : Option Kept) (state : State) → Effect c state (takes_found found state).state
taken c None state = same c state
taken c (Some kept) state = within c _ state (pushed c kept state _ refl refl refl)

imported : (d p : ℕ) (fault : Option Fault) (parent : Kept) (state : State) → Effect (change.Import d p) state (imports_unless fault d parent state).state
imported d p None parent state = within _ _ state (record { slots = a_parent d p parent refl refl refl; published = all_stay refl })
imported d p (Some f) parent state = same _ state

named : (c : Change) (name : List ℕ) (kept : Kept) (state : State) → Effect c state (publishes_within name kept state).state
named c name kept state = either (is_some (published_as name state.published)) c state _ _ (same c state) (within c _ state (record { slots = stay (record { slots = refl; next = refl }); published = another (record { name = name; kept = kept }) refl }))

published_slot : (c : Change) (name : List ℕ) (slot : Slot) (state : State) → Effect c state (publishes_slot name slot state).state
published_slot c name slot state = either (nat_lt 0 (pending_in slot.draft)) c state _ _ (same c state) (named c name slot.kept state)

withdrew : (name : List ℕ) (state : State) → Effect (change.Withdraw name) state (withdraws name state).state
withdrew name state = either (is_some (published_as name state.published)) _ state _ _ (record { slots = stay (record { slots = refl; next = refl }); published = withdrawn name refl refl }) (same _ state)

-- ---- drafts

-- a slot that was made
abbrev made : Slot → Result Slot Fault
made slot = Ok slot

made_is : (x slot : Slot) → made x ≡ Ok slot → slot ≡ x
made_is x slot e = cc

made_number : (n : ℕ) (r : Result Open Fault) (slot : Slot) → slot_made n r ≡ Ok slot → slot.number ≡ n
made_number n (Ok o) slot e = ap (λ (s : Slot). s.number) (made_is (slot_with n o) slot e)
made_number n (Err f) slot e = absurd cc

added_slot : (c : Change) (r : Result Slot Fault) (state : State) → ((slot : Slot) → r ≡ Ok slot → slot.number ≡ state.next) → Effect c state (adds_created r state).state
added_slot c (Ok slot) state h = within c _ state (record { slots = one_more slot (h slot refl) refl refl; published = all_stay refl })
added_slot c (Err f) state h = same c state

over : (c : Change) (parent : Option Kept) (asked : Created) (state : State) → Effect c state (creates_over parent asked state).state
unfolding created_slot
over c parent asked state = either (has_room state) c state _ _ (added_slot c (created_slot state.next parent asked) state (made_number state.next _)) (same c state)

from : (c : Change) (parent : Option ℕ) (asked : Created) (state : State) → Effect c state (creates_from parent asked state).state
from c None asked state = over c None asked state
from c (Some p) asked state = at_slot c _ (slot_at p state.slots) state (λ slot at. over c (Some slot.kept) asked state)

-- a step keeps the number and the parent of a slot
pub record Stands (was now : Slot) : Type 0 where
  pub number : now.number ≡ was.number
  pub parent : now.parent ≡ was.parent

stepped_by : (say : ℕ → Answer) (slot : Slot) (r : Result Stepped Fault) → ((s : Stepped) → r ≡ Ok s → s.served.parent ≡ slot.parent) → Stands slot (slot_stepped say slot r).slot
stepped_by say slot (Ok s) h = record { number = refl; parent = h s refl }
stepped_by say slot (Err f) h = record { number = refl; parent = refl }

abbrev done : Stepped → Result Stepped Fault
done x = Ok x

done_is : (x s : Stepped) → done x ≡ Ok s → s ≡ x
done_is x s e = cc

abbrev enlarged_by : Open → Added → Stepped
enlarged_by o a = record { served = record { own = o.own; parent = o.parent; draft = Some a.draft }; answer = a.answer }

enlarged_under : (o : Open) (r : Result Added Fault) (s : Stepped) → enlarged_as o r ≡ Ok s → s.served.parent ≡ o.parent
enlarged_under o (Ok a) s e = ap (λ (x : Stepped). x.served.parent) (done_is (enlarged_by o a) s e)
enlarged_under o (Err f) s e = absurd cc

enlarged_at : (o : Open) (adds : Draft → Result Added Fault) (draft : Option Draft) (s : Stepped) → enlarged_if o adds draft ≡ Ok s → s.served.parent ≡ o.parent
enlarged_at o adds None s e = absurd cc
enlarged_at o adds (Some d) s e = enlarged_under o (adds d) s e

added_under : (x : Addition) (o : Open) (s : Stepped) → apply_addition x o ≡ Ok s → s.served.parent ≡ o.parent
added_under (add.Type name root kind) o s e = enlarged_at o _ o.draft s e
added_under (add.Member t name tnum offset) o s e = enlarged_at o _ o.draft s e
added_under (add.Enumerator t name value) o s e = enlarged_at o _ o.draft s e
added_under (add.Label name last) o s e = enlarged_at o _ o.draft s e

counted_under : (r : Result Open Fault) (parent : Option Kept) (s : Stepped) → ((o : Open) → r ≡ Ok o → o.parent ≡ parent) → with_count r ≡ Ok s → s.served.parent ≡ parent
counted_under (Ok o) parent s h e = ap (λ (x : Stepped). x.served.parent) (done_is (record { served = o; answer = length (own_in o).terms }) s e) ∙ h o refl
counted_under (Err f) parent s h e = absurd cc

abbrev settled_done : Open → Result Open Fault
settled_done x = Ok x

settled_done_is : (x o : Open) → settled_done x ≡ Ok o → o ≡ x
settled_done_is x o e = cc

settled_under : (parent : Option Kept) (d : Draft) (r : Result (List ℕ) Fault) (o : Open) → settled_as parent d r ≡ Ok o → o.parent ≡ parent
settled_under parent d (Ok bytes) o e = ap (λ (x : Open). x.parent) (settled_done_is (record { own = record { lists = lists_of bytes; model = d.model }; parent = parent; draft = Some (commit d) }) o e)
settled_under parent d (Err f) o e = absurd cc

updated_under : (parent : Option Kept) (draft : Option Draft) (s : Stepped) → updated_if parent draft ≡ Ok s → s.served.parent ≡ parent
updated_under parent None s e = absurd cc
updated_under parent (Some d) s e = counted_under (settled_as parent d (written (content d))) parent s (settled_under parent d (written (content d))) e

dropped_under : (o : Open) (draft : Option Draft) (s : Stepped) → discarded_if o draft ≡ Ok s → s.served.parent ≡ o.parent
dropped_under o None s e = absurd cc
dropped_under o (Some d) s e = counted_under (Ok (with_draft o (rollback d))) o.parent s (λ x i. ap (λ (y : Open). y.parent) (settled_done_is (with_draft o (rollback d)) x i)) e

stands : (x : DraftStep) (slot : Slot) → Stands slot (slot_step x slot).slot
unfolding slot_step
stands (steps.Add addition) slot = stepped_by _ slot (apply_addition addition (open_of slot)) (added_under addition (open_of slot))
stands steps.Update slot = stepped_by _ slot (step_update (open_of slot)) (updated_under slot.parent slot.draft)
stands steps.Discard slot = stepped_by _ slot (discard_step (open_of slot)) (dropped_under (open_of slot) slot.draft)

becoming : (c : Change) (d : ℕ) (was : Slot) (outcome : SlotOutcome) (state : State) → slot_at d state.slots ≡ Some was → Stands was outcome.slot → Effect c state (slot_becomes d outcome state).state
becoming c d was outcome state at h = record { slots = a_step d was outcome.slot at h.number h.parent refl refl; published = all_stay refl }

updates : (said : Result Answer Fault) (c : Change) (outcome : Outcome) (state : State) → Effect c state outcome.state → Effect c state (updates_within said outcome state).state
updates (Ok answer) c outcome state h = within c outcome state h
updates (Err f) c outcome state h = h

drafting : (c : Change) (x : DraftStep) (d : ℕ) (slot : Slot) (state : State) → slot_at d state.slots ≡ Some slot → Effect c state (becomes_by x d (slot_step x slot) state).state
drafting c (steps.Add addition) d slot state at = becoming c d slot (slot_step (steps.Add addition) slot) state at (stands (steps.Add addition) slot)
drafting c steps.Update d slot state at = updates (slot_step steps.Update slot).said c (slot_becomes d (slot_step steps.Update slot) state) state (becoming c d slot (slot_step steps.Update slot) state at (stands steps.Update slot))
drafting c steps.Discard d slot state at = becoming c d slot (slot_step steps.Discard slot) state at (stands steps.Discard slot)

-- ---- every change

pub effect : (c : Change) (state : State) (found : Option Kept) → Effect c state (change_step state c found).state
unfolding change_step
effect (change.Part list piece) state found = staged _ list _ state
effect change.Check state found = accepted _ (first_fault state.stage) state
effect (change.Open model) state found = either (has_room state) _ state _ _ (opened _ (first_fault state.stage) (record { lists = state.stage; model = model }) state) (same _ state)
effect change.Clear state found = record { slots = stay (record { slots = refl; next = refl }); published = all_stay refl }
effect change.Reset state found = record { slots = none refl refl; published = all_stay refl }
effect (change.Close d) state found = at_slot _ _ (slot_at d state.slots) state (λ slot at. record { slots = one_less d refl refl refl; published = all_stay refl })
effect (change.Import d p) state found = at_slot _ _ (slot_at d state.slots) state (λ child at. at_slot _ _ (slot_at p state.slots) state (λ parent there. imported d p (import_refusal (open_of child) (open_of parent)) parent.kept state))
effect (change.Publish d name) state found = at_slot _ _ (slot_at d state.slots) state (λ slot at. published_slot _ name slot state)
effect (change.Withdraw name) state found = withdrew name state
effect (change.Take owner name) state found = either (has_room state) _ state _ _ (taken _ found state) (same _ state)
effect (change.Create asked) state found = from _ asked.parent asked state
effect (change.Draft d x) state found = at_slot _ _ (slot_at d state.slots) state (λ slot at. drafting _ x d slot state at)

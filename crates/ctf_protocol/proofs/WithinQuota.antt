-- No request makes a library exceed its quota.
use Rattle.std.proofs.Common.{◌≡◌, ◌≤◌, ℕ, List, [], length, Bool, true, false, Option, Some, None, Result, Ok, Err, codes, refl, arith}
use Rattle.std.specs.Prelude.{is_some, nat_eq, nat_lt, not}
use Rattle.std.specs.Cmp.Lexicographic.{pointwise}
use Rattle.std.proofs.lemmas.Bool.{ltb-false}
use Rattle.std.proofs.lemmas.List.Sums.{sum_by_push}
use Rattle.ctf_model.specs.drafts.Adders.{Added}
use Rattle.ctf_model.specs.drafts.Drafts.{Draft}
use Rattle.ctf_model.specs.rules.Faults.{first_fault}
use Rattle.ctf_model.specs.spaces.Kept.{Kept}
use Rattle.ctf_model.specs.declared.data_model.DataModel.{DataModel}
use Rattle.ctf_model.specs.declared.faults.Fault.{Fault}
use Rattle.ctf_protocol.proofs.Charged.{charge_is, filter_bytes, with_bytes, without_bytes}
use Rattle.ctf_protocol.specs.answers.Answers.{Answer}
use Rattle.ctf_model.specs.opened.Open.{pending_in}
use Rattle.ctf_model.specs.opened.Steps.{Stepped, discarded_if, enlarged_as, enlarged_if, import_refusal, step_update}
use Rattle.ctf_protocol.specs.sessions.Additions.{apply_addition, addition_answered}
use Rattle.ctf_protocol.specs.sessions.Charges.{charge, slot_bytes}
use Rattle.ctf_protocol.specs.sessions.Creations.{Created}
use Rattle.ctf_protocol.specs.sessions.DraftSteps.{created_slot, slot_step}
use Rattle.ctf_protocol.specs.sessions.Opened.{SlotOutcome, open_of, slot_stepped, under}
use Rattle.ctf_protocol.specs.sessions.Publications.{published_as, published_without}
use Rattle.ctf_protocol.specs.sessions.State.{Publication, Slot, State}
use Rattle.ctf_protocol.proofs.StepWords.{accepts_unless, adds_created, creates_from, creates_over, imports_into, imports_unless, opens_unless, publishes_slot, publishes_within, takes_found, with_slot}
use Rattle.ctf_protocol.specs.sessions.Outcomes.{Outcome, grants, quota, within_quota}
use Rattle.ctf_protocol.specs.sessions.Slots.{has_room, slot_at, slots_without}
use Rattle.ctf_protocol.specs.sessions.Steps.{becomes_by, change_step, longest_list, opens, slot_becomes, stages, takes, updates_within, withdraws}
use Rattle.ctf_protocol.specs.declared.additions.Addition.{Addition}
use Rattle.ctf_protocol.specs.declared.additions.Addition.TheVariants as add
use Rattle.ctf_protocol.specs.declared.requests.Change.TheVariants as change
use Rattle.ctf_protocol.specs.declared.requests.DraftStep.{DraftStep}
use Rattle.ctf_protocol.specs.declared.requests.DraftStep.TheVariants as steps
use Rattle.ctf_protocol.specs.declared.requests.ListName.{ListName}

abbrev pub Stays : Outcome → Type 0
Stays outcome = charge outcome.state ≤ quota

quoted : (over : Bool) (outcome : Outcome) (state : State) → nat_lt quota (charge outcome.state) ≡ over → charge state ≤ quota → Stays (within_quota outcome state)
quoted true outcome state e h = rw e h
quoted false outcome state e h = rw e (ltb-false quota (charge outcome.state) e)

within : (outcome : Outcome) (state : State) → charge state ≤ quota → Stays (within_quota outcome state)
within outcome state h = quoted (nat_lt quota (charge outcome.state)) outcome state refl h

-- ---- lists

pub staging : (long : Bool) (list : ListName) (bytes : List ℕ) (state : State) → nat_lt longest_list (length bytes) ≡ long → charge state ≤ quota → Stays (stages list bytes state)
staging true list bytes state e h = rw e h
staging false list bytes state e h = rw e (within _ state h)

pub accepting : (fault : Option Fault) (state : State) → charge state ≤ quota → Stays (accepts_unless fault state)
accepting None state h = h
accepting (Some fault) state h = h

-- opened lists were already counted
opening : (fault : Option Fault) (model : DataModel) (state : State) → charge state ≤ quota → Stays (opens_unless fault (record { lists = state.stage; model = model }) state)
opening (Some fault) model state h = h
opening None model state h =
    let kept : Kept = record { lists = state.stage; model = model } in
    let slot : Slot = record { number = state.next; kept = kept; parent = None; draft = None } in
    let before = charge_is state in
    let after = charge_is (opens_unless None kept state).state in
    let more = sum_by_push slot_bytes state.slots slot in
    omega (arith, h, before, after, more)

pub opens_stay : (room : Bool) (model : DataModel) (state : State) → has_room state ≡ room → charge state ≤ quota → Stays (opens model state)
opens_stay true model state e h = rw e (opening (first_fault state.stage) model state h)
opens_stay false model state e h = rw e h

pub clearing : (state : State) → charge state ≤ quota → Stays (change_step state change.Clear None)
unfolding change_step
clearing state h =
    let before = charge_is state in
    let after = charge_is (change_step state change.Clear None).state in
    omega (arith, h, before, after)

pub resetting : (state : State) → charge state ≤ quota → Stays (change_step state change.Reset None)
unfolding change_step
resetting state h =
    let before = charge_is state in
    let after = charge_is (change_step state change.Reset None).state in
    omega (arith, h, before, after)

-- ---- slots

pub closing : (d : ℕ) (slot : Option Slot) (state : State) → slot_at d state.slots ≡ slot → charge state ≤ quota → Stays (with_slot (λ s. grants [] (record state { slots = slots_without d state.slots })) slot state)
closing d None state e h = h
closing d (Some slot) state e h =
    let before = charge_is state in
    let after = charge_is (record state { slots = slots_without d state.slots }) in
    let less = without_bytes d slot state.slots e in
    omega (arith, h, before, after, less)

imported : (fault : Option Fault) (d : ℕ) (parent : Kept) (state : State) → charge state ≤ quota → Stays (imports_unless fault d parent state)
imported None d parent state h = within _ state h
imported (Some fault) d parent state h = h

pub importing : (d : ℕ) (child parent : Option Slot) (state : State) → charge state ≤ quota → Stays (with_slot (λ c. with_slot (λ p. imports_into c d p state) parent state) child state)
importing d None parent state h = h
importing d (Some c) None state h = h
importing d (Some c) (Some p) state h = imported (import_refusal (open_of c) (open_of p)) d p.kept state h

-- ---- publications

published : (taken : Bool) (name : List ℕ) (kept : Kept) (state : State) → is_some (published_as name state.published) ≡ taken → charge state ≤ quota → Stays (publishes_within name kept state)
published true name kept state e h = rw e h
published false name kept state e h = rw e (within _ state h)

publish_of : (late : Bool) (name : List ℕ) (slot : Slot) (state : State) → nat_lt 0 (pending_in slot.draft) ≡ late → charge state ≤ quota → Stays (publishes_slot name slot state)
publish_of true name slot state e h = rw e h
publish_of false name slot state e h = rw e (published _ name slot.kept state refl h)

pub publishing : (name : List ℕ) (slot : Option Slot) (state : State) → charge state ≤ quota → Stays (with_slot (λ s. publishes_slot name s state) slot state)
publishing name None state h = h
publishing name (Some slot) state h = publish_of _ name slot state refl h

pub withdrawn : (there : Bool) (name : List ℕ) (state : State) → is_some (published_as name state.published) ≡ there → charge state ≤ quota → Stays (withdraws name state)
withdrawn true name state e h =
    let before = charge_is state in
    let after = charge_is (record state { published = published_without name state.published }) in
    let less = filter_bytes (λ (p : Publication). not (pointwise nat_eq p.name name)) state.published in
    rw e (omega (arith, h, before, after, less))
withdrawn false name state e h = rw e h

taken : (found : Option Kept) (state : State) → charge state ≤ quota → Stays (takes_found found state)
taken None state h = h
taken (Some kept) state h = within _ state h

pub taking : (room : Bool) (found : Option Kept) (state : State) → has_room state ≡ room → charge state ≤ quota → Stays (takes found state)
taking true found state e h = rw e (taken found state h)
taking false found state e h = rw e h

-- ---- drafts

created : (slot : Result Slot Fault) (state : State) → charge state ≤ quota → Stays (adds_created slot state)
created (Ok slot) state h = within _ state h
created (Err fault) state h = h

created_over : (room : Bool) (parent : Option Kept) (asked : Created) (state : State) → has_room state ≡ room → charge state ≤ quota → Stays (creates_over parent asked state)
created_over true parent asked state e h = rw e (created (created_slot state.next parent asked) state h)
created_over false parent asked state e h = rw e h

created_on : (slot : Option Slot) (asked : Created) (state : State) → charge state ≤ quota → Stays (with_slot (λ s. creates_over (Some s.kept) asked state) slot state)
created_on None asked state h = h
created_on (Some slot) asked state h = created_over _ (Some slot.kept) asked state refl h

pub created_from : (parent : Option ℕ) (asked : Created) (state : State) → charge state ≤ quota → Stays (creates_from parent asked state)
created_from None asked state h = created_over _ None asked state refl h
created_from (Some p) asked state h = created_on (slot_at p state.slots) asked state h

-- a step that leaves the slot's dictionary unchanged
abbrev SameBytes : Slot → SlotOutcome → Type 0
SameBytes slot outcome = slot_bytes outcome.slot ≡ slot_bytes slot

enlarging : (say : ℕ → Answer) (slot : Slot) (r : Result Added Fault) → SameBytes slot (slot_stepped say slot (enlarged_as (open_of slot) r))
enlarging say slot (Ok apply_addition) = refl
enlarging say slot (Err fault) = refl

enlarging_if : (say : ℕ → Answer) (slot : Slot) (adds : Draft → Result Added Fault) (draft : Option Draft) → SameBytes slot (slot_stepped say slot (enlarged_if (open_of slot) adds draft))
enlarging_if say slot adds None = refl
enlarging_if say slot adds (Some d) = enlarging say slot (adds d)

adding : (slot : Slot) (x : Addition) → SameBytes slot (slot_stepped (addition_answered x) slot (apply_addition x (open_of slot)))
adding slot (add.Type name root kind) = enlarging_if _ slot _ slot.draft
adding slot (add.Member t name tnum offset) = enlarging_if _ slot _ slot.draft
adding slot (add.Enumerator t name value) = enlarging_if _ slot _ slot.draft
adding slot (add.Label name last) = enlarging_if _ slot _ slot.draft

add_same : (slot : Slot) (x : Addition) → SameBytes slot (slot_step (steps.Add x) slot)
unfolding slot_step
add_same slot x = adding slot x

dropping : (slot : Slot) (draft : Option Draft) → SameBytes slot (slot_stepped (under (codes "types")) slot (discarded_if (open_of slot) draft))
dropping slot None = refl
dropping slot (Some d) = refl

discard_same : (slot : Slot) → SameBytes slot (slot_step steps.Discard slot)
unfolding slot_step
discard_same slot = dropping slot slot.draft

same_slot : (d : ℕ) (slot : Slot) (outcome : SlotOutcome) (state : State) → slot_at d state.slots ≡ Some slot → SameBytes slot outcome → charge state ≤ quota → Stays (slot_becomes d outcome state)
same_slot d slot outcome state at same h =
    let before = charge_is state in
    let after = charge_is (slot_becomes d outcome state).state in
    let moved = with_bytes d slot outcome.slot state.slots at in
    omega (arith, h, before, after, moved, same)

refused_same : (say : ℕ → Answer) (slot : Slot) (r : Result Stepped Fault) (f : Fault) → (slot_stepped say slot r).said ≡ Err f → SameBytes slot (slot_stepped say slot r)
refused_same say slot (Ok step) f e = absurd cc
refused_same say slot (Err fault) f e = refl

refused : (slot : Slot) (f : Fault) → (slot_step steps.Update slot).said ≡ Err f → SameBytes slot (slot_step steps.Update slot)
unfolding slot_step
refused slot f e = refused_same _ slot (step_update (open_of slot)) f e

updating : (said : Result Answer Fault) (d : ℕ) (slot : Slot) (state : State) → (slot_step steps.Update slot).said ≡ said → slot_at d state.slots ≡ Some slot → charge state ≤ quota → Stays (updates_within said (slot_becomes d (slot_step steps.Update slot) state) state)
updating (Ok answer) d slot state e at h = within _ state h
updating (Err fault) d slot state e at h = same_slot d slot (slot_step steps.Update slot) state at (refused slot fault e) h

becoming : (x : DraftStep) (d : ℕ) (slot : Slot) (state : State) → slot_at d state.slots ≡ Some slot → charge state ≤ quota → Stays (becomes_by x d (slot_step x slot) state)
becoming (steps.Add addition) d slot state at h = same_slot d slot (slot_step (steps.Add addition) slot) state at (add_same slot addition) h
becoming steps.Update d slot state at h = updating (slot_step steps.Update slot).said d slot state refl at h
becoming steps.Discard d slot state at h = same_slot d slot (slot_step steps.Discard slot) state at (discard_same slot) h

pub stepping : (x : DraftStep) (d : ℕ) (slot : Option Slot) (state : State) → slot_at d state.slots ≡ slot → charge state ≤ quota → Stays (with_slot (λ s. becomes_by x d (slot_step x s) state) slot state)
stepping x d None state at h = h
stepping x d (Some slot) state at h = becoming x d slot state at h

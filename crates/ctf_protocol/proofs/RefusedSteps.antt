-- A refused request leaves the library as it was.
use Rattle.std.proofs.Common.{◌≡◌, ℕ, List, [], ◌∷◌, length, Bool, true, false, Option, Some, None, Result, Ok, Err, eqb, refl, ap, sym, ◌∙◌}
use Rattle.std.specs.Prelude.{is_some, nat_lt}
use Rattle.ctf_model.specs.rules.Faults.{first_fault}
use Rattle.ctf_model.specs.spaces.Kept.{Kept}
use Rattle.ctf_model.specs.declared.data_model.DataModel.{DataModel}
use Rattle.ctf_model.specs.declared.faults.Fault.{Fault}
use Rattle.ctf_protocol.specs.answers.Answers.{Answer}
use Rattle.ctf_model.specs.opened.Open.{pending_in}
use Rattle.ctf_model.specs.opened.Steps.{Stepped, discard_step, import_refusal, step_update}
use Rattle.ctf_protocol.specs.sessions.Additions.{apply_addition, addition_answered}
use Rattle.ctf_protocol.specs.sessions.Charges.{charge}
use Rattle.ctf_protocol.specs.sessions.Creations.{Created}
use Rattle.ctf_protocol.specs.sessions.DraftSteps.{created_slot, slot_step}
use Rattle.ctf_protocol.specs.sessions.Slots.{slots_with}
use Rattle.ctf_protocol.specs.sessions.Opened.{SlotOutcome, open_of, slot_stepped}
use Rattle.ctf_protocol.specs.sessions.Publications.{published_as}
use Rattle.ctf_protocol.specs.sessions.State.{Slot, State}
use Rattle.ctf_protocol.proofs.StepWords.{accepts_unless, adds_created, creates_from, creates_over, imports_into, imports_unless, opens_unless, publishes_slot, publishes_within, takes_found, with_slot}
use Rattle.ctf_protocol.specs.sessions.Outcomes.{Outcome, grants, quota, within_quota}
use Rattle.ctf_protocol.specs.sessions.Slots.{has_room, slot_at, slots_without}
use Rattle.ctf_protocol.specs.sessions.Steps.{becomes_by, longest_list, opens, slot_becomes, stages, takes, updates_within, withdraws}
use Rattle.ctf_protocol.specs.declared.requests.DraftStep.{DraftStep}
use Rattle.ctf_protocol.specs.declared.requests.DraftStep.TheVariants as steps
use Rattle.ctf_protocol.specs.declared.requests.ListName.{ListName}

-- if the outcome is a refusal, the library is unchanged
abbrev pub Stays : Outcome → State → Type 0
Stays outcome state = (f : Fault) → outcome.reply.outcome ≡ Err f → outcome.state ≡ state

pub granted : (answer : Answer) (new state : State) → Stays (grants answer new) state
granted answer new state f e = absurd cc

quoted : (over : Bool) (answer : Answer) (new state : State) → nat_lt quota (charge new) ≡ over → Stays (within_quota (grants answer new) state) state
quoted true answer new state e = rw e (λ f h. refl)
quoted false answer new state e = rw e (granted answer new state)

within : (answer : Answer) (new state : State) → Stays (within_quota (grants answer new) state) state
within answer new state = quoted (nat_lt quota (charge new)) answer new state refl

-- ---- lists

pub staging : (long : Bool) (list : ListName) (bytes : List ℕ) (state : State) → nat_lt longest_list (length bytes) ≡ long → Stays (stages list bytes state) state
staging true list bytes state e = rw e (λ f h. refl)
staging false list bytes state e = rw e (within _ _ state)

pub accepting : (fault : Option Fault) (state : State) → Stays (accepts_unless fault state) state
accepting None state f h = refl
accepting (Some fault) state f h = refl

opening : (fault : Option Fault) (kept : Kept) (state : State) → Stays (opens_unless fault kept state) state
opening None kept state f h = absurd cc
opening (Some fault) kept state f h = refl

pub opens_stay : (room : Bool) (model : DataModel) (state : State) → has_room state ≡ room → Stays (opens model state) state
opens_stay true model state e = rw e (opening (first_fault state.stage) (record { lists = state.stage; model = model }) state)
opens_stay false model state e = rw e (λ f h. refl)

-- ---- slots

pub closing : (d : ℕ) (slot : Option Slot) (state : State) → Stays (with_slot (λ s. grants [] (record state { slots = slots_without d state.slots })) slot state) state
closing d None state f h = refl
closing d (Some slot) state f h = absurd cc

imported : (fault : Option Fault) (d : ℕ) (parent : Kept) (state : State) → Stays (imports_unless fault d parent state) state
imported None d parent state = within _ _ state
imported (Some fault) d parent state = λ f h. refl

pub importing : (d : ℕ) (child parent : Option Slot) (state : State) → Stays (with_slot (λ c. with_slot (λ p. imports_into c d p state) parent state) child state) state
importing d None parent state = λ f h. refl
importing d (Some c) None state = λ f h. refl
importing d (Some c) (Some p) state = imported (import_refusal (open_of c) (open_of p)) d p.kept state

-- ---- publications

published : (taken : Bool) (name : List ℕ) (kept : Kept) (state : State) → is_some (published_as name state.published) ≡ taken → Stays (publishes_within name kept state) state
published true name kept state e = rw e (λ f h. refl)
published false name kept state e = rw e (within _ _ state)

publish_of : (late : Bool) (name : List ℕ) (slot : Slot) (state : State) → nat_lt 0 (pending_in slot.draft) ≡ late → Stays (publishes_slot name slot state) state
publish_of true name slot state e = rw e (λ f h. refl)
publish_of false name slot state e = rw e (published _ name slot.kept state refl)

pub publishing : (name : List ℕ) (slot : Option Slot) (state : State) → Stays (with_slot (λ s. publishes_slot name s state) slot state) state
publishing name None state = λ f h. refl
publishing name (Some slot) state = publish_of _ name slot state refl

pub withdrawn : (there : Bool) (name : List ℕ) (state : State) → is_some (published_as name state.published) ≡ there → Stays (withdraws name state) state
withdrawn true name state e = rw e (granted _ _ state)
withdrawn false name state e = rw e (λ f h. refl)

taken : (found : Option Kept) (state : State) → Stays (takes_found found state) state
taken None state = λ f h. refl
taken (Some kept) state = within _ _ state

pub taking : (room : Bool) (found : Option Kept) (state : State) → has_room state ≡ room → Stays (takes found state) state
taking true found state e = rw e (taken found state)
taking false found state e = rw e (λ f h. refl)

-- ---- drafts

created : (slot : Result Slot Fault) (state : State) → Stays (adds_created slot state) state
created (Ok slot) state = within _ _ state
created (Err fault) state = λ f h. refl

created_over : (room : Bool) (parent : Option Kept) (asked : Created) (state : State) → has_room state ≡ room → Stays (creates_over parent asked state) state
created_over true parent asked state e = rw e (created (created_slot state.next parent asked) state)
created_over false parent asked state e = rw e (λ f h. refl)

created_on : (slot : Option Slot) (asked : Created) (state : State) → Stays (with_slot (λ s. creates_over (Some s.kept) asked state) slot state) state
created_on None asked state = λ f h. refl
created_on (Some slot) asked state = created_over _ (Some slot.kept) asked state refl

pub created_from : (parent : Option ℕ) (asked : Created) (state : State) → Stays (creates_from parent asked state) state
created_from None asked state = created_over _ None asked state refl
created_from (Some p) asked state = created_on (slot_at p state.slots) asked state

-- if the outcome is a refusal, the slot is unchanged
abbrev Same : Slot → SlotOutcome → Type 0
Same slot outcome = (f : Fault) → outcome.said ≡ Err f → outcome.slot ≡ slot

stepped : (say : ℕ → Answer) (slot : Slot) (r : Result Stepped Fault) → Same slot (slot_stepped say slot r)
stepped say slot (Ok step) f e = absurd cc
stepped say slot (Err fault) f e = refl

of_slot : (x : DraftStep) (slot : Slot) → Same slot (slot_step x slot)
unfolding slot_step
of_slot (steps.Add addition) slot = stepped (addition_answered addition) slot (apply_addition addition (open_of slot))
of_slot steps.Update slot = stepped _ slot (step_update (open_of slot))
of_slot steps.Discard slot = stepped _ slot (discard_step (open_of slot))

-- replacing a slot by itself changes nothing
with_case : (d : ℕ) (slot first : Slot) (rest : List Slot) → (slot_at d rest ≡ Some slot → slots_with d slot rest ≡ rest) → (t : Bool) → eqb first.number d ≡ t → slot_at d (first ∷ rest) ≡ Some slot → slots_with d slot (first ∷ rest) ≡ first ∷ rest
with_case d slot first rest later true t e =
    let here : Some first ≡ Some slot = rw t at e in
    let same : first ≡ slot = cc in
    rw t (ap (λ s. s ∷ rest) (sym same))
with_case d slot first rest later false t e =
    let there : slot_at d rest ≡ Some slot = rw t at e in
    rw t (ap (λ ss. first ∷ ss) (later there))

with_itself : (d : ℕ) (slot : Slot) (slots : List Slot) → slot_at d slots ≡ Some slot → slots_with d slot slots ≡ slots
with_itself d slot [] e = refl
with_itself d slot (first ∷ rest) e = with_case d slot first rest (with_itself d slot rest) (eqb first.number d) refl e

becomes : (d : ℕ) (slot : Slot) (outcome : SlotOutcome) (state : State) → slot_at d state.slots ≡ Some slot → Same slot outcome → Stays (slot_becomes d outcome state) state
becomes d slot outcome state at same f e = ap (λ ss. record state { slots = ss }) (ap (λ s. slots_with d s state.slots) (same f e) ∙ with_itself d slot state.slots at)

update_within : (said : Result Answer Fault) (d : ℕ) (slot : Slot) (outcome : SlotOutcome) (state : State) → outcome.said ≡ said → slot_at d state.slots ≡ Some slot → Same slot outcome → Stays (updates_within said (slot_becomes d outcome state) state) state
update_within (Ok answer) d slot outcome state e at same = rw e (within answer _ state)
update_within (Err fault) d slot outcome state e at same = becomes d slot outcome state at same

becoming : (x : DraftStep) (d : ℕ) (slot : Slot) (state : State) → slot_at d state.slots ≡ Some slot → Stays (becomes_by x d (slot_step x slot) state) state
becoming (steps.Add addition) d slot state at = becomes d slot _ state at (of_slot (steps.Add addition) slot)
becoming steps.Update d slot state at = update_within _ d slot _ state refl at (of_slot steps.Update slot)
becoming steps.Discard d slot state at = becomes d slot _ state at (of_slot steps.Discard slot)

pub stepping : (x : DraftStep) (d : ℕ) (slot : Option Slot) (state : State) → slot_at d state.slots ≡ slot → Stays (with_slot (λ s. becomes_by x d (slot_step x s) state) slot state) state
stepping x d None state at = λ f h. refl
stepping x d (Some slot) state at = becoming x d slot state at

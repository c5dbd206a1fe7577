-- The step of a draft, checked with the charge of everything else, is that of the library.
use Rattle.std.proofs.Common.{◌≡◌, ◌+◌, ◌-◌, ◌⊎◌, ℕ, List, sum_by, Option, Some, None, Result, Ok, Err, Bool, true, false, refl, inl, inr, ap, sym, subst, ◌∙◌, arith}
use Rattle.std.specs.Prelude.{nat_lt}
use Rattle.ctf_answers.specs.Replies.{change_answer, unaddressed_reply}
use Rattle.ctf_answers.specs.declared.counts.Counts.{Counts}
use Rattle.ctf_library.specs.Drafting.{HaveStepped, HaveSteppedAt, step_in}
use Rattle.ctf_library.specs.Quotas.{granted_within, step_beside}
use Rattle.ctf_library.specs.Stepping.{Makes}
use Rattle.ctf_library.proofs.DraftPlaces.{slot_kept}
use Rattle.ctf_model.specs.rules.Refusals.{placeless, out_of_memory}
use Rattle.ctf_model.specs.declared.faults.Fault.{Fault}
use Rattle.ctf_model.specs.declared.faults.TheConstants.Fault.{QUOTA_FULL}
use Rattle.ctf_protocol.proofs.Charged.{slot_becomes_charge, without_bytes}
use Rattle.ctf_protocol.specs.answers.Answers.{Answer, Reply}
use Rattle.ctf_protocol.specs.sessions.Charges.{charge, slot_bytes}
use Rattle.ctf_protocol.specs.sessions.DraftSteps.{slot_step}
use Rattle.ctf_protocol.specs.sessions.Slots.{slots_with}
use Rattle.ctf_protocol.specs.sessions.Opened.{SlotOutcome, slot_refused}
use Rattle.ctf_protocol.specs.sessions.State.{Slot, State}
use Rattle.ctf_protocol.proofs.StepWords.{with_slot}
use Rattle.ctf_protocol.specs.sessions.Outcomes.{Outcome, outcome_of, quota, refuses, within_quota}
use Rattle.ctf_protocol.specs.sessions.Slots.{slot_at}
use Rattle.ctf_protocol.specs.sessions.Steps.{becomes_by, slot_becomes, steps_draft, updates_within}
use Rattle.ctf_protocol.specs.declared.requests.DraftStep.{DraftStep}
use Rattle.ctf_protocol.specs.declared.requests.DraftStep.TheVariants.{Add, Update, Discard}

-- a refusal leaves the library as it was
refused_there : (d code : ℕ) (slot : Slot) (s : State) → slot_at d s.slots ≡ Some slot → refuses code s ≡ slot_becomes d (slot_refused (placeless code) slot) s
refused_there d code slot s at = ap (λ (xs : List Slot). outcome_of (Err (placeless code)) (record s { slots = xs })) (sym (slot_kept d slot s.slots at))

judged : (b : Bool) (d rest : ℕ) (slot : Slot) (answer : Answer) (outcome : SlotOutcome) (s : State) → slot_at d s.slots ≡ Some slot → rest + slot_bytes slot ≡ charge s → nat_lt quota (rest + slot_bytes outcome.slot) ≡ b → within_quota (slot_becomes d outcome s) s ≡ slot_becomes d (granted_within (Ok answer) rest outcome slot) s
judged b d rest slot answer outcome s at is e =
    let moved = slot_becomes_charge d slot outcome.slot s at in
    let same : charge (slot_becomes d outcome s).state ≡ rest + slot_bytes outcome.slot = omega (arith, moved, is) in
    by b e (ap (nat_lt quota) same ∙ e)
  where
    by : (t : Bool) → nat_lt quota (rest + slot_bytes outcome.slot) ≡ t → nat_lt quota (charge (slot_becomes d outcome s).state) ≡ t → within_quota (slot_becomes d outcome s) s ≡ slot_becomes d (granted_within (Ok answer) rest outcome slot) s
    by true h g = rw (h, g) (refused_there d QUOTA_FULL slot s at)
    by false h g = rw (h, g) refl

updated : (r : Result Answer Fault) (d rest : ℕ) (slot : Slot) (outcome : SlotOutcome) (s : State) → slot_at d s.slots ≡ Some slot → rest + slot_bytes slot ≡ charge s → updates_within r (slot_becomes d outcome s) s ≡ slot_becomes d (granted_within r rest outcome slot) s
updated (Ok answer) d rest slot outcome s at is = judged _ d rest slot answer outcome s at is refl
updated (Err fault) d rest slot outcome s at is = refl

becomes : (x : DraftStep) (d rest : ℕ) (slot : Slot) (s : State) → slot_at d s.slots ≡ Some slot → rest + slot_bytes slot ≡ charge s → becomes_by x d (slot_step x slot) s ≡ slot_becomes d (step_beside rest x slot) s
becomes (Add addition) d rest slot s at is = refl
becomes Update d rest slot s at is = updated (slot_step Update slot).said d rest slot (slot_step Update slot) s at is
becomes Discard d rest slot s at is = refl

abbrev reply_of : Result Answer Fault → Reply
reply_of r = record { session = 0; outcome = r }

abbrev with_slots : State → List Slot → State
with_slots s xs = record s { slots = xs }

made_at : (o : Option Slot) (others : ℕ) (x : DraftStep) (d : ℕ) (s : State) (new : List Slot) (result : Result Counts Fault) → slot_at d s.slots ≡ o → others + sum_by slot_bytes s.slots ≡ charge s → HaveSteppedAt others o x d result s.slots new → Makes s (with_slot (λ slot. becomes_by x d (slot_step x slot) s) o s) result (with_slots s new)
made_at None others x d s new result at is (refused, same) = inl (ap (λ (r : Result Counts Fault). unaddressed_reply r) refused, ap (with_slots s) same)
made_at (Some slot) others x d s new result at is h =
    let less = without_bytes d slot s.slots at in
    let rest : ℕ = others + (sum_by slot_bytes s.slots - slot_bytes slot) in
    let to = becomes x d rest slot s at (omega (arith, less, is)) in
    subst (λ (o : Outcome). Makes s o result (with_slots s new)) (sym to) (by h)
  where
    by : ((change_answer result ≡ (step_in others x slot s.slots).said) × (new ≡ slots_with d (step_in others x slot s.slots).slot s.slots)) ⊎ ((result ≡ Err out_of_memory) × (new ≡ s.slots)) → Makes s (slot_becomes d (step_in others x slot s.slots) s) result (with_slots s new)
    by (inl done) = inl (ap reply_of done.0, ap (with_slots s) done.1)
    by (inr none) = inr (ap (λ (r : Result Counts Fault). unaddressed_reply r) none.0, ap (with_slots s) none.1)

pub made : (others : ℕ) (x : DraftStep) (d : ℕ) (s : State) (new : List Slot) (result : Result Counts Fault) → others + sum_by slot_bytes s.slots ≡ charge s → HaveStepped others x d result s.slots new → Makes s (steps_draft d x s) result (with_slots s new)
made others x d s new result is h = made_at (slot_at d s.slots) others x d s new result refl is h

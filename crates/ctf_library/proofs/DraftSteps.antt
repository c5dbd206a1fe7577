-- Steps of the draft in a slot are those of the open dictionary there.
pub use Rattle.ctf_protocol.specs.sessions.Opened.{under}
use Rattle.std.proofs.Common.{◌≡◌, ◌+◌, ℕ, ℤ, List, true, false, Some, Result, Ok, Err, codes, refl, ap, sym, subst, ◌∙◌, ◌⊎◌, inl, inr, arith}
use Rattle.std.specs.Prelude.{nat_lt, not}
use Rattle.std.proofs.lemmas.Bool.{le-ltb, lt-ltb}
use Rattle.ctf_answers.specs.Replies.{change_answer}
use Rattle.ctf_answers.specs.declared.counts.Counts.{Counts}
use Rattle.ctf_library.proofs.Rooms.{room_le, room_lt}
use Rattle.ctf_library.specs.Drafting.{IsStepped}
use Rattle.ctf_protocol.specs.sessions.Opened.{slot_stepped}
use Rattle.ctf_library.specs.Quotas.{within}
use Rattle.ctf_protocol.specs.sessions.Opened.{SlotOutcome, open_of, slot_with, unsaid}
use Rattle.ctf_model.specs.rules.Refusals.{out_of_memory}
use Rattle.ctf_model.specs.declared.faults.Fault.{Fault}
use Rattle.ctf_open.specs.Quotas.{IsRefused}
use Rattle.ctf_model.specs.opened.Open.{Open}
use Rattle.ctf_model.specs.opened.Sizes.{kept_bytes, parent_bytes}
use Rattle.ctf_model.specs.opened.Steps.{Stepped, discard_step, enumerator_added, step_update}
use Rattle.ctf_model.specs.declared.numbers.TypeNum.{TypeNum}
use Rattle.ctf_protocol.specs.answers.Answers.{Answer}
use Rattle.ctf_protocol.specs.sessions.DraftSteps.{slot_step}
use Rattle.ctf_protocol.specs.sessions.State.{Slot}
use Rattle.ctf_protocol.specs.sessions.Outcomes.{quota}
use Rattle.ctf_protocol.specs.declared.additions.Addition.TheVariants as add
use Rattle.ctf_protocol.specs.declared.requests.DraftStep.TheVariants.{Add, Update, Discard}

-- ---- a successful step, and a refused one

pub done_step : (say : ℕ → Answer) (s : Slot) (r : Result Stepped Fault) (new : Open) (n : ℕ) (counts : Result Counts Fault) → r ≡ Ok (record { served = new; answer = n }) → change_answer counts ≡ Ok (say n) → IsStepped (slot_stepped say s r) counts s (slot_with s.number new)
done_step say s r new n counts is said =
    subst (λ (x : Result Stepped Fault). IsStepped (slot_stepped say s x) counts s (slot_with s.number new)) (sym is) (inl (said, refl))

pub refused_step : (say : ℕ → Answer) (s : Slot) (r : Result Stepped Fault) (new : Open) (f : Fault) (counts : Result Counts Fault) → (f ≡ out_of_memory) ⊎ (r ≡ Err f) → new ≡ open_of s → counts ≡ Err f → IsStepped (slot_stepped say s r) counts s (slot_with s.number new)
refused_step say s r new f counts (inl want) same is = inr (is ∙ ap Err want, ap (slot_with s.number) same)
refused_step say s r new f counts (inr e) same is =
    subst (λ (x : Result Stepped Fault). IsStepped (slot_stepped say s x) counts s (slot_with s.number new)) (sym e) (inl (ap change_answer is, ap (slot_with s.number) same))

-- ---- an enumerator

pub enumerator_as : (s : Slot) (t : TypeNum) (name : List ℕ) (value : ℤ) → slot_step (Add (add.Enumerator t name value)) s ≡ slot_stepped unsaid s (enumerator_added t.0 (record { name = name; value = value }) (open_of s))
unfolding slot_step
enumerator_as s t name value = refl

-- ---- updates

updates_as : (s : Slot) (r : Result Stepped Fault) → step_update (open_of s) ≡ r → slot_step Update s ≡ slot_stepped (under (codes "types")) s r
unfolding slot_step
updates_as s r e = ap (slot_stepped (under (codes "types")) s) e

pub update_done : (others : ℕ) (s : Slot) (new : Open) (n : ℕ) (counts : Result Counts Fault) → step_update (open_of s) ≡ Ok (record { served = new; answer = n }) → not (nat_lt quota (others + (kept_bytes new.own + parent_bytes s.parent))) ≡ true → new.parent ≡ s.parent → change_answer counts ≡ Ok (under (codes "types") n) → IsStepped (within others (slot_step Update s) s) counts s (slot_with s.number new)
update_done others s new n counts is fits same said =
    let le = room_le (others + (kept_bytes new.own + parent_bytes s.parent)) fits in
    let alike : parent_bytes new.parent ≡ parent_bytes s.parent = ap parent_bytes same in
    let none : nat_lt quota (others + (kept_bytes new.own + parent_bytes new.parent)) ≡ false = le-ltb quota (others + (kept_bytes new.own + parent_bytes new.parent)) (omega (arith, le, alike)) in
    subst (λ (o : SlotOutcome). IsStepped (within others o s) counts s (slot_with s.number new)) (sym (updates_as s _ is)) (rw none (inl (said, refl)))

pub update_refused : (others : ℕ) (s : Slot) (new : Open) (f : Fault) (counts : Result Counts Fault) → (f ≡ out_of_memory) ⊎ IsRefused (step_update (open_of s)) (Some (record { others = others; most = quota })) f → new ≡ open_of s → counts ≡ Err f → IsStepped (within others (slot_step Update s) s) counts s (slot_with s.number new)
update_refused others s new f counts (inl want) same is = inr (is ∙ ap Err want, ap (slot_with s.number) same)
update_refused others s new f counts (inr refused) same is = at (step_update (open_of s)) refl refused
  where
    at : (r : Result Stepped Fault) → step_update (open_of s) ≡ r → IsRefused r (Some (record { others = others; most = quota })) f → IsStepped (within others (slot_step Update s) s) counts s (slot_with s.number new)
    at (Ok step) e h =
        let lt = room_lt (others + (kept_bytes step.served.own + parent_bytes step.served.parent)) h.1 in
        let over : nat_lt quota (others + (kept_bytes step.served.own + parent_bytes step.served.parent)) ≡ true = lt-ltb quota (others + (kept_bytes step.served.own + parent_bytes step.served.parent)) lt in
        subst (λ (o : SlotOutcome). IsStepped (within others o s) counts s (slot_with s.number new)) (sym (updates_as s _ e)) (rw over (inl (ap change_answer is ∙ ap Err h.0, ap (slot_with s.number) same)))
    at (Err g) e h =
        subst (λ (o : SlotOutcome). IsStepped (within others o s) counts s (slot_with s.number new)) (sym (updates_as s _ e)) (inl (ap change_answer is ∙ ap Err h, ap (slot_with s.number) same))

-- ---- discards

pub discards_as : (s : Slot) (r : Result Stepped Fault) → discard_step (open_of s) ≡ r → slot_step Discard s ≡ slot_stepped (under (codes "types")) s r
unfolding slot_step
discards_as s r e = ap (slot_stepped (under (codes "types")) s) e

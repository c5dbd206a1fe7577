-- The step of the draft in the slot at an index.
use Rattle.std.proofs.Common.{◌≡◌, ℕ, ◌+◌, ◌-◌, sum_by, subst, List, [], ◌∷◌, map, set, Bool, true, false, Option, Some, None, Result, Ok, Err, codes, eqb, refl, ap, sym, ◌∙◌, ◌⊎◌, inl, inr, arith}
use Rattle.std.proofs.lemmas.List.Sums.{sum_by-cons}
use Rattle.ctf_answers.specs.Replies.{change_answer}
use Rattle.ctf_answers.specs.declared.counts.Counts.{Counts}
use Rattle.ctf_library.proofs.Numbered.{IsPlace}
use Rattle.ctf_library.specs.Drafting.{HaveStepped, HaveSteppedAt, IsStepped, step_in}
use Rattle.ctf_library.specs.Quotas.{step_beside}
use Rattle.ctf_protocol.proofs.Charged.{without_bytes}
use Rattle.ctf_protocol.specs.sessions.Charges.{slot_bytes}
use Rattle.ctf_library.specs.SlotView.{slot_of}
use Rattle.ctf_library.specs.declared.slots.Slot as own
use Rattle.ctf_protocol.specs.answers.Answers.{Answer}
use Rattle.ctf_protocol.specs.sessions.DraftSteps.{slot_step}
use Rattle.ctf_protocol.specs.sessions.Slots.{slots_with}
use Rattle.ctf_protocol.specs.sessions.Opened.{SlotOutcome, open_of, slot_stepped, under}
use Rattle.ctf_model.specs.opened.Steps.{discarded_if}
use Rattle.ctf_model.specs.drafts.Drafts.{Draft}
use Rattle.ctf_model.specs.rules.Refusals.{out_of_memory}
use Rattle.ctf_protocol.specs.sessions.State.{Slot}
use Rattle.ctf_protocol.specs.sessions.Slots.{slot_at}
use Rattle.ctf_model.specs.declared.faults.Fault.{Fault}
use Rattle.ctf_protocol.specs.declared.requests.DraftStep.{DraftStep}
use Rattle.ctf_protocol.specs.declared.requests.DraftStep.TheVariants.{Discard}

-- replacing a slot by itself changes nothing
kept_at : (n : ℕ) (s x : Slot) (xs : List Slot) → (slot_at n xs ≡ Some s → slots_with n s xs ≡ xs) → (t : Bool) → eqb x.number n ≡ t → slot_at n (x ∷ xs) ≡ Some s → slots_with n s (x ∷ xs) ≡ x ∷ xs
kept_at n s x xs later true t e =
    let here : Some x ≡ Some s = rw t at e in
    let same : s ≡ x = cc in
    rw t (ap (λ (y : Slot). y ∷ xs) same)
kept_at n s x xs later false t e =
    let there : slot_at n xs ≡ Some s = rw t at e in
    rw t (ap (λ (ys : List Slot). x ∷ ys) (later there))

pub slot_kept : (n : ℕ) (s : Slot) (slots : List Slot) → slot_at n slots ≡ Some s → slots_with n s slots ≡ slots
slot_kept n s [] e = refl
slot_kept n s (x ∷ xs) e = kept_at n s x xs (λ h. slot_kept n s xs h) (eqb x.number n) refl e

pub have_stepped : (others rest : ℕ) (step : DraftStep) (n : ℕ) (items : List own.Slot) (i : ℕ) (old new : own.Slot) (result : Result Counts Fault) → IsPlace n items i → slot_at n (map slot_of items) ≡ Some (slot_of old) → rest ≡ others + (sum_by slot_bytes (map slot_of items) - slot_bytes (slot_of old)) → IsStepped (step_beside rest step (slot_of old)) result (slot_of old) (slot_of new) → HaveStepped others step n result (map slot_of items) (map slot_of (set items i new))
have_stepped others rest step n items i old new result p at same h = rw at (by (subst (λ (k : ℕ). IsStepped (step_beside k step (slot_of old)) result (slot_of old) (slot_of new)) same h))
  where
    slots : List Slot
    slots = map slot_of items

    becomes : (s : Slot) → slot_of new ≡ s → map slot_of (set items i new) ≡ slots_with n s slots
    becomes s e = sym (p.replaced new) ∙ ap (λ (x : Slot). slots_with n x slots) e

    stepped : SlotOutcome
    stepped = step_in others step (slot_of old) slots

    by : IsStepped stepped result (slot_of old) (slot_of new)
        → ((change_answer result ≡ stepped.said) × (map slot_of (set items i new) ≡ slots_with n stepped.slot slots)) ⊎ ((result ≡ Err out_of_memory) × (map slot_of (set items i new) ≡ slots))
    by (inl done) = inl (done.0, becomes stepped.slot done.1)
    by (inr none) = inr (none.0, becomes (slot_of old) none.1 ∙ slot_kept n (slot_of old) slots at)

-- ---- a step of a slot after the first

later_at : (others : ℕ) (step : DraftStep) (n : ℕ) (x : Slot) (xs ys : List Slot) (result : Result Counts Fault) (o : Option Slot) → eqb x.number n ≡ false → slot_at n xs ≡ o → HaveSteppedAt (others + slot_bytes x) o step n result xs ys → HaveSteppedAt others o step n result (x ∷ xs) (x ∷ ys)
later_at others step n x xs ys result None other at h = (h.0, ap (λ (ss : List Slot). x ∷ ss) h.1)
later_at others step n x xs ys result (Some slot) other at h = by h
  where
    same : step_in (others + slot_bytes x) step slot xs ≡ step_in others step slot (x ∷ xs)
    same =
        let less = without_bytes n slot xs at in
        ap (λ (k : ℕ). step_beside k step slot) (omega (arith, less, sum_by-cons slot_bytes x xs))

    with_later : (s : Slot) → x ∷ slots_with n s xs ≡ slots_with n s (x ∷ xs)
    with_later s = rw other refl

    by : ((change_answer result ≡ (step_in (others + slot_bytes x) step slot xs).said) × (ys ≡ slots_with n (step_in (others + slot_bytes x) step slot xs).slot xs)) ⊎ ((result ≡ Err out_of_memory) × (ys ≡ xs))
        → ((change_answer result ≡ (step_in others step slot (x ∷ xs)).said) × (x ∷ ys ≡ slots_with n (step_in others step slot (x ∷ xs)).slot (x ∷ xs))) ⊎ ((result ≡ Err out_of_memory) × (x ∷ ys ≡ x ∷ xs))
    by (inl done) = inl (done.0 ∙ ap (λ (o : SlotOutcome). o.said) same, ap (λ (ss : List Slot). x ∷ ss) done.1 ∙ with_later _ ∙ ap (λ (o : SlotOutcome). slots_with n o.slot (x ∷ xs)) same)
    by (inr none) = inr (none.0, ap (λ (ss : List Slot). x ∷ ss) none.1)

pub later_stepped : (others : ℕ) (step : DraftStep) (n : ℕ) (x : Slot) (xs ys : List Slot) (result : Result Counts Fault) → eqb x.number n ≡ false → HaveStepped (others + slot_bytes x) step n result xs ys → HaveStepped others step n result (x ∷ xs) (x ∷ ys)
later_stepped others step n x xs ys result other h = rw other (later_at others step n x xs ys result (slot_at n xs) other refl h)

-- a discard takes no memory
abbrev code_of : Result Answer Fault → ℕ
code_of (Ok answer) = 1
code_of (Err fault) = fault.code

discard_answers : (s : Slot) (d : Option Draft) → (Err out_of_memory ≡ (slot_stepped (under (codes "types")) s (discarded_if (open_of s) d)).said) → ⊥
discard_answers s None e = let numbers : 0 ≡ 52 = ap code_of e in absurd (omega (arith, numbers))
discard_answers s (Some d) e = let numbers : 0 ≡ 1 = ap code_of e in absurd (omega (arith, numbers))

pub discard_is_quiet : (s : Slot) (step : DraftStep) (result : Result Counts Fault) → step ≡ Discard → change_answer result ≡ (slot_step step s).said → result ≡ Err out_of_memory → ⊥
unfolding slot_step
discard_is_quiet s step result is said want =
    let told : change_answer result ≡ (slot_step Discard s).said = rw is at said in
    discard_answers s s.draft (sym (ap change_answer want) ∙ told)

-- The index of the slot with a number.
use Rattle.std.proofs.Common.{◌≡◌, ℕ, ◌+◌, ◌<◌, List, [], ◌∷◌, map, set, get_or, length, Bool, true, false, Option, None, Some, eqb, refl, ◌∙◌, ap, sym, subst, arith, add-one, suc, sum_by, IfSome}
use Rattle.std.specs.Prelude.{option_map}
use Rattle.std.specs.List.{remove}
use Rattle.ctf_library.specs.SlotPlaces.{place_of}
use Rattle.ctf_library.specs.SlotView.{slot_of}
use Rattle.ctf_library.specs.declared.slots.Slot as own
use Rattle.ctf_model.specs.opened.Sizes.{kept_bytes, parent_bytes}
use Rattle.ctf_model.specs.spaces.Kept.{Kept}
use Rattle.ctf_protocol.proofs.Charged.{parent_more}
use Rattle.ctf_protocol.specs.sessions.Charges.{slot_bytes}
use Rattle.ctf_protocol.specs.sessions.State.{Slot}
use Rattle.ctf_protocol.specs.sessions.Slots.{slots_with}
use Rattle.ctf_protocol.specs.sessions.Slots.{slot_at, slots_without, slots_with_parent}

-- the slot with number `n` is at index `i`
pub record IsPlace (n : ℕ) (slots : List own.Slot) (i : ℕ) : Type 0 where
  pub inside : i < length slots
  pub found : (d : own.Slot) → slot_at n (map slot_of slots) ≡ Some (slot_of (get_or slots i d))
  pub without : slots_without n (map slot_of slots) ≡ map slot_of (remove slots i)
  pub with_parent : (parent : Kept) (d new : own.Slot) → slot_of new ≡ record (slot_of (get_or slots i d)) { parent = Some parent } → slots_with_parent n parent (map slot_of slots) ≡ map slot_of (set slots i new)
  pub replaced : (new : own.Slot) → slots_with n (slot_of new) (map slot_of slots) ≡ map slot_of (set slots i new)

further : (o : Option ℕ) (j : ℕ) → option_map (λ i. i + 1) o ≡ Some j → (i : ℕ) × (o ≡ Some i) × (j ≡ i + 1)
further None j h = absurd cc
further (Some i) j h = (i, refl, cc)

place_case : (n : ℕ) (x : own.Slot) (xs : List own.Slot) (i : ℕ) → place_of n (map slot_of (x ∷ xs)) ≡ Some i → ((k : ℕ) → place_of n (map slot_of xs) ≡ Some k → IsPlace n xs k) → (t : Bool) → eqb x.number n ≡ t → IsPlace n (x ∷ xs) i
place_case n x xs i h below true t =
    let here : Some 0 ≡ Some i = rw t at h in
    let at : 0 ≡ i = cc in
    let first : IsPlace n (x ∷ xs) 0 = record { inside = omega arith; found = λ d. rw t refl; without = rw t refl; with_parent = λ parent d new e. rw t (ap (λ (s : Slot). s ∷ map slot_of xs) (sym e)); replaced = λ new. rw t refl } in
    let P : ℕ → Type 0 = λ k. IsPlace n (x ∷ xs) k in
    subst P at first
place_case n x xs i h below false t =
    let some : option_map (λ k. k + 1) (place_of n (map slot_of xs)) ≡ Some i = rw t at h in
    let k = further (place_of n (map slot_of xs)) i some in
    let p = below k.0 k.1 in
    let next : IsPlace n (x ∷ xs) (suc k.0) = record {
      inside = let w = p.inside in omega (arith, w);
      found = λ d. rw t (p.found d);
      without = rw t (ap (λ (ys : List Slot). slot_of x ∷ ys) p.without);
      with_parent = λ parent d new e. rw t (ap (λ (ys : List Slot). slot_of x ∷ ys) (p.with_parent parent d new e));
      replaced = λ new. rw t (ap (λ (ys : List Slot). slot_of x ∷ ys) (p.replaced new));
    } in
    let P : ℕ → Type 0 = λ j. IsPlace n (x ∷ xs) j in
    subst P (sym (k.2 ∙ add-one k.0)) next

pub is_place : (n : ℕ) (slots : List own.Slot) (i : ℕ) → place_of n (map slot_of slots) ≡ Some i → IsPlace n slots i
is_place n [] i h = absurd cc
is_place n (x ∷ xs) i h = place_case n x xs i h (λ k e. is_place n xs k e) (eqb x.number n) refl

-- no slot has number `n`
pub record IsNowhere (n : ℕ) (slots : List Slot) : Type 0 where
  pub found : slot_at n slots ≡ None
  pub without : slots_without n slots ≡ slots
  pub with_parent : (parent : Kept) → slots_with_parent n parent slots ≡ slots

further_none : (o : Option ℕ) → option_map (λ i. i + 1) o ≡ None → o ≡ None
further_none None h = refl
further_none (Some i) h = absurd cc

nowhere_case : (n : ℕ) (x : Slot) (xs : List Slot) → place_of n (x ∷ xs) ≡ None → (place_of n xs ≡ None → IsNowhere n xs) → (t : Bool) → eqb x.number n ≡ t → IsNowhere n (x ∷ xs)
nowhere_case n x xs h later true t = let clash : Some 0 ≡ None = rw t at h in absurd cc
nowhere_case n x xs h later false t =
    let none : option_map (λ k. k + 1) (place_of n xs) ≡ None = rw t at h in
    let p = later (further_none (place_of n xs) none) in
    record { found = rw t p.found; without = rw t (ap (λ (ys : List Slot). x ∷ ys) p.without); with_parent = λ parent. rw t (ap (λ (ys : List Slot). x ∷ ys) (p.with_parent parent)) }

pub is_nowhere : (n : ℕ) (slots : List Slot) → place_of n slots ≡ None → IsNowhere n slots
is_nowhere n [] h = record { found = refl; without = refl; with_parent = λ parent. refl }
is_nowhere n (x ∷ xs) h = nowhere_case n x xs h (λ e. is_nowhere n xs e) (eqb x.number n) refl

-- ---- the new bytes of a slot with a parent

pub parent_counted : (n : ℕ) (p : Kept) (old new : List Slot) (o : Option Slot) → slot_at n old ≡ o → new ≡ slots_with_parent n p old → IfSome o (λ slot. sum_by slot_bytes new + parent_bytes slot.parent ≡ sum_by slot_bytes old + kept_bytes p)
parent_counted n p old new None at is = tt
parent_counted n p old new (Some slot) at is = ap (λ (xs : List Slot). sum_by slot_bytes xs + parent_bytes slot.parent) is ∙ parent_more n p slot old at

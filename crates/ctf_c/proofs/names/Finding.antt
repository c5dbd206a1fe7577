-- The first item that passes a test: one step, and the end.
use Rattle.std.proofs.Common.{◌≡◌, ℕ, zero, suc, ◌+◌, ◌<◌, ◌≤◌, Bool, true, false, ℤ, List, [], ◌∷◌, length, map, drop, Option, Some, None, refl, sym, ap, ◌∙◌, arith, find}
use Rattle.std.specs.Prelude.{slice_get, bytes_eq}
use Rattle.std.specs.Option.{option_map}
use Rattle.std.proofs.lemmas.List.{drop_all}
use Rattle.std.proofs.lemmas.Option.{same_Some}
use Rattle.std.specs.Ordering.{int_eq}
use Rattle.ctf_model.specs.format.Term.{Enumerator}
use Rattle.ctf_sections.specs.ShortNames.{is_named}

-- whether item `i` passes
abbrev pub says : {A : Type 0} → (A → Bool) → List A → ℕ → Bool → Type 0
says test xs i b = Some b ≡ option_map test (slice_get xs i)

pub found_here : {A : Type 0} (test : A → Bool) (xs : List A) (i : ℕ) → says test xs i true → find test (drop i xs) ≡ slice_get xs i
found_here test [] i h = absurd cc
found_here test (x ∷ xs) zero h = rw (same_Some _ _ (sym h)) refl
found_here test (x ∷ xs) (suc i) h = found_here test xs i h

step_on : {A : Type 0} (test : A → Bool) (xs : List A) (i : ℕ) → says test xs i false → find test (drop i xs) ≡ find test (drop (suc i) xs)
step_on test [] i h = absurd cc
step_on test (x ∷ xs) zero h = rw (same_Some _ _ (sym h)) refl
step_on test (x ∷ xs) (suc i) h = step_on test xs i h

pub found_later : {A : Type 0} (test : A → Bool) (xs : List A) (i : ℕ) → says test xs i false → find test (drop (i + 1) xs) ≡ find test (drop i xs)
found_later test xs i h = let one : suc i ≡ i + 1 = omega arith in rw (← one) (sym (step_on test xs i h))

pub found_nowhere : {A : Type 0} (test : A → Bool) (xs : List A) (i : ℕ) → length xs ≤ i → find test (drop i xs) ≡ None
found_nowhere test xs i le = ap (find test) (drop_all i xs le)

-- item `i` exists
pub record IsAt {A : Type 0} (xs : List A) (i : ℕ) : Type 0 where
  pub item : A
  pub is : slice_get xs i ≡ Some item

pub item_at : {A : Type 0} (xs : List A) (i : ℕ) → i < length xs → IsAt xs i
item_at [] i lt = absurd (omega arith)
item_at (x ∷ xs) zero lt = record { item = x; is = refl }
item_at (x ∷ xs) (suc i) lt = let later = item_at xs i (omega arith) in record { item = later.item; is = later.is }

-- the result for a name is that for its item
pub names_say : {A : Type 0} (called : A → List ℕ) (name : List ℕ) (xs : List A) (i : ℕ) (b : Bool) → i < length xs → b ≡ is_named name (slice_get (map called xs) i) → says (λ x. bytes_eq name (called x)) xs i b
names_say called name [] i b lt e = absurd (omega arith)
names_say called name (x ∷ xs) zero b lt e = ap Some e
names_say called name (x ∷ xs) (suc i) b lt e = names_say called name xs i b (omega arith) e

-- the result for a value is that for its enumerator
pub values_say : (value v : ℤ) (es : List Enumerator) (i : ℕ) (b : Bool) → Some v ≡ option_map (λ (e : Enumerator). e.value) (slice_get es i) → int_eq v value ≡ b → says (λ (e : Enumerator). int_eq e.value value) es i b
values_say value v [] i b e f = absurd cc
values_say value v (x ∷ xs) zero b e f = ap Some (sym f ∙ ap (λ (n : ℤ). int_eq n value) (same_Some _ _ e))
values_say value v (x ∷ xs) (suc i) b e f = values_say value v xs i b e f

-- the item is the one at its index
pub got : {A : Type 0} (test : A → Bool) (xs : List A) (i : ℕ) (o : Option A) → o ≡ slice_get xs i → says test xs i true → find test (drop i xs) ≡ find test xs → o ≡ find test xs
got test xs i o e h same = e ∙ sym (found_here test xs i h) ∙ same

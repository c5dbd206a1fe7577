-- The first enumerator with a value.
use Rattle.std.proofs.Common.{◌≡◌, ℕ, ℤ, zero, suc, ◌+◌, true, false, Bool, List, [], ◌∷◌, length, drop, Option, Some, None, refl, sym, arith, ◌≤◌, ◌<◌}
use Rattle.std.specs.Prelude.{IsSome, slice_get}
use Rattle.std.specs.Ordering.{int_eq}
use Rattle.std.specs.Option.{option_map}
use Rattle.std.proofs.lemmas.List.{drop_all}
use Rattle.std.proofs.lemmas.Option.{same_Some}
use Rattle.ctf_model.specs.dumps.Texts.{signed_decimal}
use Rattle.ctf_model.specs.format.Term.{Enumerator}
use Rattle.ctf_model.specs.values.Values.{name_of_value}

from_here : (es : List Enumerator) (i : ℕ) (e : Enumerator) → slice_get es i ≡ Some e → drop i es ≡ e ∷ drop (i + 1) es
from_here (x ∷ es) zero e h = let same : x ≡ e = cc in rw same refl
from_here (x ∷ es) (suc i) e h = let next : suc i + 1 ≡ suc (i + 1) = omega arith in rw next (from_here es i e h)
from_here [] i e h = absurd cc

-- whether enumerator `i` has the value
abbrev pub Says : List Enumerator → ℤ → ℕ → Bool → Type 0
Says es value i b = Some b ≡ option_map (λ (e : Enumerator). int_eq e.value value) (slice_get es i)

pub named_here : (es : List Enumerator) (i : ℕ) (e : Enumerator) (value : ℤ) → slice_get es i ≡ Some e → Says es value i true → name_of_value (drop i es) value ≡ e.name
unfolding name_of_value
named_here es i e value h says =
    let is : int_eq e.value value ≡ true = same_Some _ _ (sym (rw h at says)) in
    rw (from_here es i e h) (rw is refl)

step_on : (es : List Enumerator) (i : ℕ) (value : ℤ) → Says es value i false → name_of_value (drop i es) value ≡ name_of_value (drop (suc i) es) value
unfolding name_of_value
step_on [] i value h = absurd cc
step_on (e ∷ es) zero value h = rw (same_Some _ _ (sym h)) refl
step_on (e ∷ es) (suc i) value h = step_on es i value h

pub named_later : (es : List Enumerator) (i : ℕ) (value : ℤ) → Says es value i false → name_of_value (drop i es) value ≡ name_of_value (drop (i + 1) es) value
named_later es i value h = let one : suc i ≡ i + 1 = omega arith in rw (← one) (step_on es i value h)

-- an item of a list, as lent
pub item_lent : {A B : Type 0} (see : A → B) (o : Option A) (x : A) (y : Option B) → option_map see o ≡ y → o ≡ Some x → y ≡ Some (see x)
item_lent see o x y h is = sym (rw is at h)

pub some_lent : {A B : Type 0} (see : A → B) (o : Option A) (xs : List B) (i : ℕ) → option_map see o ≡ slice_get xs i → i < length xs → IsSome o
some_lent see (Some x) xs i e h = refl
some_lent see None [] i e h = absurd (omega arith)
some_lent see None (x ∷ xs) zero e h = absurd cc
some_lent see None (x ∷ xs) (suc i) e h = some_lent see None xs i e (omega arith)

pub named_nowhere : (es : List Enumerator) (i : ℕ) (value : ℤ) → length es ≤ i → name_of_value (drop i es) value ≡ signed_decimal value
unfolding name_of_value
named_nowhere es i value h = rw (drop_all i es h) refl

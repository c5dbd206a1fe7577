-- The first type that passes, from facts about each.
use Rattle.std.proofs.Common.{◌≡◌, ℕ, zero, suc, ◌<◌, Bool, true, false, List, [], ◌∷◌, length, Option, Some, None, refl, arith}
use Rattle.std.specs.Prelude.{slice_get, if◌then◌else◌}
use Rattle.std.specs.Option.{option_map}
use Rattle.ctf_model.specs.names.Lookups.{first_place}
use Rattle.ctf_model.specs.format.Term.{Term}

pub none_passes : (passes : Term → Bool) (terms : List Term) → ((i : ℕ) (x : Term) → slice_get terms i ≡ Some x → passes x ≡ false) → first_place passes terms ≡ None
none_passes passes [] none = refl
none_passes passes (x ∷ terms) none = rw (none 0 x refl, none_passes passes terms (λ i y is. none (suc i) y is)) refl

pub first_passes : (passes : Term → Bool) (terms : List Term) (n : ℕ) (x : Term) → slice_get terms n ≡ Some x → passes x ≡ true → ((i : ℕ) (y : Term) → i < n → slice_get terms i ≡ Some y → passes y ≡ false) → first_place passes terms ≡ Some n
first_passes passes [] n x is fits none = absurd cc
first_passes passes (y ∷ terms) zero x is fits none = let same : y ≡ x = cc in rw (same, fits) refl
first_passes passes (y ∷ terms) (suc n) x is fits none =
    rw (none 0 y (omega arith) refl, first_passes passes terms n x is fits (λ i z lt at. none (suc i) z (omega (arith, lt)) at)) refl

inside_later : (n count : ℕ) (o : Option ℕ) → ((m : ℕ) → o ≡ Some m → m < count) → option_map suc o ≡ Some n → n < suc count
inside_later n count None rest g = absurd cc
inside_later n count (Some m) rest g = let same : suc m ≡ n = cc in omega (arith, same, rest m refl)

inside_case : (n count : ℕ) (o : Option ℕ) (u : Bool) → ((m : ℕ) → o ≡ Some m → m < count) → (if u then Some 0 else option_map suc o) ≡ Some n → n < suc count
inside_case n count o true rest g = let zero_is : 0 ≡ n = cc in omega (arith, zero_is)
inside_case n count o false rest g = inside_later n count o rest g

pub place_inside : (passes : Term → Bool) (terms : List Term) (n : ℕ) → first_place passes terms ≡ Some n → n < length terms
place_inside passes [] n h = absurd cc
place_inside passes (x ∷ terms) n h = inside_case n (length terms) (first_place passes terms) (passes x) (λ m. place_inside passes terms m) h

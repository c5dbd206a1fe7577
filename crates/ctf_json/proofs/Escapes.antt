-- Whether a byte occurs in a text.
use Rattle.std.proofs.Common.{◌≡◌, ℕ, suc, zero, ◌+◌, ◌<◌, ◌≤◌, Bool, true, false, ◌||◌, ◌==◌, List, [], ◌∷◌, length, get_or, drop, refl, sym, ap, ◌∙◌, arith}
use Rattle.std.proofs.lemmas.List.{drop_all, drop_more}
use Rattle.std.specs.Prelude.{slice_index}
use Rattle.std.proofs.lemmas.Bool.{false≢true, true≢false, or_parts}
use Rattle.std.proofs.lemmas.Bool.Decides.{nat_tests}
use Rattle.memchr.specs.Find.{Nowhere, Passes, is_byte}
use Rattle.ctf_json.specs.Memory.{has_byte}

or_left : (b c : Bool) → b ≡ true → (b || c) ≡ true
or_left true c e = refl
or_left false c e = absurd (false≢true e)

or_right : (b c : Bool) → c ≡ true → (b || c) ≡ true
or_right true c e = refl
or_right false c e = e

neither : (b c : Bool) → b ≡ false → c ≡ false → (b || c) ≡ false
neither true c e f = e
neither false c e f = f

pub found : (b : ℕ) (xs : List ℕ) (k : ℕ) → k < length xs → is_byte b (slice_index xs k) ≡ true → has_byte b xs ≡ true
found b [] k h e = let no : ⊥ = omega arith in absurd no
found b (x ∷ xs) zero h e = or_left (x == b) (has_byte b xs) (grind (arith, nat_tests, e))
found b (x ∷ xs) (suc k) h e = or_right (x == b) (has_byte b xs) (found b xs k (omega arith) e)

pub nowhere : (b : ℕ) (xs : List ℕ) → Nowhere (Passes (is_byte b) xs) 0 (length xs) → has_byte b xs ≡ false
nowhere b [] h = refl
nowhere b (x ∷ xs) h =
    let first = h 0 (omega arith) (omega arith) in
    neither (x == b) (has_byte b xs) (grind (arith, nat_tests, first)) (nowhere b xs (λ k low high. h (suc k) (omega arith) (omega arith)))

pub no_escape_at : (xs : List ℕ) (i : ℕ) → has_byte 92 xs ≡ false → get_or xs i 32 ≡ 92 → ⊥
no_escape_at [] i e is = let no : ⊥ = omega (arith, is) in no
no_escape_at (x ∷ xs) zero e is = true≢false (sym (ap (λ y. y == 92) is) ∙ (or_parts (x == 92) (has_byte 92 xs) e).0)
no_escape_at (x ∷ xs) (suc i) e is = no_escape_at xs i (or_parts (x == 92) (has_byte 92 xs) e).1 is

or_moved : (f e r : Bool) → (f || (e || r)) ≡ ((e || f) || r)
or_moved true true r = refl
or_moved true false r = refl
or_moved false true r = refl
or_moved false false r = refl

-- one more byte was checked
pub looked_on : (b : ℕ) (xs : List ℕ) (i : ℕ) (f : Bool) → i < length xs → has_byte b xs ≡ (f || has_byte b (drop i xs)) → has_byte b xs ≡ (((get_or xs i 0 == b) || f) || has_byte b (drop (i + 1) xs))
looked_on b xs i f h e = e ∙ ap (λ l. f || has_byte b l) (drop_more xs i 0 h) ∙ or_moved f (get_or xs i 0 == b) (has_byte b (drop (i + 1) xs))

or_none : (f : Bool) → (f || false) ≡ f
or_none true = refl
or_none false = refl

pub looked_through : (b : ℕ) (xs : List ℕ) (i : ℕ) (f : Bool) → length xs ≤ i → has_byte b xs ≡ (f || has_byte b (drop i xs)) → f ≡ has_byte b xs
looked_through b xs i f h e = sym (e ∙ ap (λ l. f || has_byte b l) (drop_all i xs h) ∙ or_none f)

-- The first few bytes of a name decide whether it is empty or a mark.
use Rattle.std.proofs.Common.{◌≡◌, ℕ, zero, suc, ◌+◌, ◌<◌, Bool, true, false, eqb, List, [], ◌∷◌, length, take, get_or, refl, ap, arith}
use Rattle.std.specs.Prelude.{◌&&◌}
use Rattle.std.specs.List.{before_first, position_or_len}
use Rattle.std.specs.Str.{bytes_eq}
use Rattle.std.proofs.lemmas.Bool.{ne_eqb}
use Rattle.ctf_model.specs.format.Name.{is_zero}
use Rattle.ctf_model.specs.symbols.Symbols.{is_mark}

-- a name that begins with a zero byte is empty; any other continues
pub name_cons : (x : ℕ) (xs : List ℕ) → is_zero x ≡ false → before_first is_zero (x ∷ xs) ≡ x ∷ before_first is_zero xs
name_cons x xs e = let one : 1 + position_or_len is_zero xs ≡ suc (position_or_len is_zero xs) = omega arith in rw (e, one) refl

pub name_none : (x : ℕ) (xs : List ℕ) → is_zero x ≡ true → before_first is_zero (x ∷ xs) ≡ []
name_none x xs e = rw e refl

-- a name is compared byte by byte
later_case : (x n : ℕ) (xs m : List ℕ) → ((ys : List ℕ) → length ys < n → bytes_eq (before_first is_zero (take n xs)) ys ≡ bytes_eq (before_first is_zero xs) ys)
    → length m < suc n → bytes_eq (x ∷ before_first is_zero (take n xs)) m ≡ bytes_eq (x ∷ before_first is_zero xs) m
later_case x n xs [] rest lt = refl
later_case x n xs (y ∷ ys) rest lt = ap (λ (b : Bool). eqb x y && b) (rest ys (omega arith))

front_case : (x n : ℕ) (xs m : List ℕ) (b : Bool) → is_zero x ≡ b → ((ys : List ℕ) → length ys < n → bytes_eq (before_first is_zero (take n xs)) ys ≡ bytes_eq (before_first is_zero xs) ys)
    → length m < suc n → bytes_eq (before_first is_zero (x ∷ take n xs)) m ≡ bytes_eq (before_first is_zero (x ∷ xs)) m
front_case x n xs m true e rest lt = rw (name_none x (take n xs) e, name_none x xs e) refl
front_case x n xs m false e rest lt = rw (name_cons x (take n xs) e, name_cons x xs e) (later_case x n xs m rest lt)

-- more bytes than a name has decide whether a text begins with that name
pub same_in_front : (t m : List ℕ) (n : ℕ) → length m < n → bytes_eq (before_first is_zero (take n t)) m ≡ bytes_eq (before_first is_zero t) m
same_in_front t m zero lt = absurd (omega arith)
same_in_front [] m (suc n) lt = refl
same_in_front (x ∷ xs) m (suc n) lt = front_case x n xs m (is_zero x) refl (λ ys less. same_in_front xs ys n less) lt

-- a mark begins with an underscore
pub no_mark : (t : List ℕ) → length t ≡ 0 → is_mark (before_first is_zero t) ≡ false
no_mark [] e = refl
no_mark (x ∷ xs) e = absurd (omega arith)

mark_case : (x : ℕ) (xs : List ℕ) (b : Bool) → is_zero x ≡ b → eqb x 95 ≡ false → is_mark (before_first is_zero (x ∷ xs)) ≡ false
mark_case x xs true e other = rw (name_none x xs e) refl
mark_case x xs false e other = rw (name_cons x xs e, other) refl

pub other_front : (t : List ℕ) (d : ℕ) → 0 < length t → eqb (get_or t 0 d) 95 ≡ false → is_mark (before_first is_zero t) ≡ false
other_front [] d lt e = absurd (omega arith)
other_front (x ∷ xs) d lt e = mark_case x xs (is_zero x) refl e

-- ---- whether a name is empty

pub no_name : (t : List ℕ) → length t ≡ 0 → length (before_first is_zero t) ≡ 0
no_name [] e = refl
no_name (x ∷ xs) e = absurd (omega arith)

pub empty_name : (t : List ℕ) (d : ℕ) → 0 < length t → get_or t 0 d ≡ 0 → length (before_first is_zero t) ≡ 0
empty_name [] d lt e = absurd (omega arith)
empty_name (x ∷ xs) d lt e = let test : is_zero x ≡ true = rw e refl in ap length (name_none x xs test)

pub some_name : (t : List ℕ) (d : ℕ) → 0 < length t → eqb (get_or t 0 d) 0 ≡ false → eqb (length (before_first is_zero t)) 0 ≡ false
some_name [] d lt e = absurd (omega arith)
some_name (x ∷ xs) d lt e = let more : length (before_first is_zero (x ∷ xs)) ≡ suc (length (before_first is_zero xs)) = ap length (name_cons x xs e) in ne_eqb _ 0 (λ none. absurd (omega arith))

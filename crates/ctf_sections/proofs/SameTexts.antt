-- A text equals a name in a table if its bytes are there, a zero byte follows, and none is inside.
use Rattle.std.proofs.Common.{◌≡◌, ℕ, zero, suc, ◌<◌, ◌&&◌, Bool, true, false, List, [], ◌∷◌, length, get_or, take, Option, Some, None, refl, sym, ap, ◌∙◌, arith}
use Rattle.std.specs.Option.{option_map}
use Rattle.std.specs.Prelude.{if◌then◌else◌, slice_get, ◌==◌}
use Rattle.std.specs.Str.{bytes_eq}
use Rattle.std.proofs.lemmas.Bool.{eq-eqb, eqb-true, false_from_ne_true}
use Rattle.std.proofs.lemmas.List.{get_or-take, length-take-le}
use Rattle.std.proofs.lemmas.Option.{same_Some}
use Rattle.memchr.specs.Find.{IsLastByte, is_byte}
use Rattle.ctf_model.specs.format.Name.{is_zero, text}
use Rattle.ctf_sections.specs.ShortNames.{is_named}
use Rattle.ctf_sections.proofs.Texts.{text_cons_case}

and_false : (b : Bool) → (b && false) ≡ false
and_false true = refl
and_false false = refl

behind_one : (x y : ℕ) (ys : List ℕ) (o : Option (List ℕ)) → is_named (y ∷ ys) (option_map (λ b. x ∷ b) o) ≡ ((y == x) && is_named ys o)
behind_one x y ys None = sym (and_false (y == x))
behind_one x y ys (Some b) = refl

no_empty : (x : ℕ) (o : Option (List ℕ)) → is_named [] (option_map (λ b. x ∷ b) o) ≡ false
no_empty x None = refl
no_empty x (Some b) = refl

-- one more byte
step : (x : ℕ) (xs : List ℕ) (y : ℕ) (ys : List ℕ) (t : Bool) → is_zero x ≡ t → is_named (y ∷ ys) (text (x ∷ xs)) ≡ (if t then false else ((y == x) && is_named ys (text xs)))
step x xs y ys true e = rw (text_cons_case x xs true e) refl
step x xs y ys false e = rw (text_cons_case x xs false e) (behind_one x y ys (text xs))

ended : (x : ℕ) (xs : List ℕ) (t : Bool) → is_zero x ≡ t → is_named [] (text (x ∷ xs)) ≡ t
ended x xs true e = rw (text_cons_case x xs true e) refl
ended x xs false e = rw (text_cons_case x xs false e) (no_empty x (text xs))

is_0 : (x : ℕ) → is_zero x ≡ true → x ≡ 0
is_0 x e = eqb-true x 0 e

-- the texts differ after the first byte
unless : (x : ℕ) (xs : List ℕ) (y : ℕ) (ys : List ℕ) (u : Bool) → is_zero x ≡ u → (is_zero x ≡ false → is_named ys (text xs) ≡ false) → is_named (y ∷ ys) (text (x ∷ xs)) ≡ false
unless x xs y ys true e h = step x xs y ys true e
unless x xs y ys false e h = rw (step x xs y ys false e, h e) (and_false (y == x))

-- no zero byte follows
pub no_end : (bytes t : List ℕ) → (slice_get bytes (length t) ≡ Some 0 → ⊥) → is_named t (text bytes) ≡ false
no_end [] t h = refl
no_end (x ∷ xs) [] h = ended x xs false (false_from_ne_true (is_zero x) (λ e. h (ap Some (is_0 x e))))
no_end (x ∷ xs) (y ∷ ys) h = unless x xs y ys (is_zero x) refl (λ e. no_end xs ys h)

-- a zero byte is inside
pub zero_inside : (bytes t : List ℕ) (k : ℕ) → k < length t → is_zero (get_or bytes k 0) ≡ true → is_named t (text bytes) ≡ false
zero_inside [] t k lt e = refl
zero_inside (x ∷ xs) [] k lt e = absurd (omega arith)
zero_inside (x ∷ xs) (y ∷ ys) zero lt e = step x xs y ys true e
zero_inside (x ∷ xs) (y ∷ ys) (suc k) lt e = unless x xs y ys (is_zero x) refl (λ f. zero_inside xs ys k (omega arith) e)

-- otherwise the bytes decide
pub compared : (bytes t : List ℕ) → slice_get bytes (length t) ≡ Some 0 → ((k : ℕ) → k < length t → is_zero (get_or bytes k 0) ≡ false) → is_named t (text bytes) ≡ bytes_eq t (take (length t) bytes)
compared [] t e h = absurd cc
compared (x ∷ xs) [] e h = ended x xs true (zero_there x e)
  where
    zero_there : (y : ℕ) → Some y ≡ Some 0 → is_zero y ≡ true
    zero_there y f = eq-eqb y 0 (same_Some y 0 f)
compared (x ∷ xs) (y ∷ ys) e h = rw (step x xs y ys false (h 0 (omega arith)), compared xs ys e (λ k lt. h (suc k) (omega arith))) refl

-- a text that equals the name is the front of the bytes
front_case : (x : ℕ) (xs : List ℕ) (y : ℕ) (ys : List ℕ) (u v : Bool) → is_zero x ≡ u → (y == x) ≡ v → (is_named ys (text xs) ≡ true → ys ≡ take (length ys) xs) → is_named (y ∷ ys) (text (x ∷ xs)) ≡ true → y ∷ ys ≡ take (length (y ∷ ys)) (x ∷ xs)
front_case x xs y ys true v eu ev later e =
    let f : false ≡ true = sym (step x xs y ys true eu) ∙ e in
    absurd cc
front_case x xs y ys false false eu ev later e =
    let f : false ≡ true = sym (step x xs y ys false eu ∙ ap (λ (b : Bool). b && is_named ys (text xs)) ev) ∙ e in
    absurd cc
front_case x xs y ys false true eu ev later e =
    let named : is_named ys (text xs) ≡ true = sym (step x xs y ys false eu ∙ ap (λ (b : Bool). b && is_named ys (text xs)) ev) ∙ e in
    ap (λ (b : ℕ). b ∷ ys) (eqb-true y x ev) ∙ ap (λ (l : List ℕ). x ∷ l) (later named)

pub in_front : (bytes t : List ℕ) → is_named t (text bytes) ≡ true → t ≡ take (length t) bytes
in_front [] t e = absurd cc
in_front (x ∷ xs) [] e = refl
in_front (x ∷ xs) (y ∷ ys) e = front_case x xs y ys (is_zero x) (y == x) refl refl (in_front xs ys) e

-- if no named text would pass, the text is not the name
pub unless_named : (bytes t : List ℕ) (b : Bool) → b ≡ false → (is_named t (text bytes) ≡ true → b ≡ true) → false ≡ is_named t (text bytes)
unless_named bytes t b e of_named = sym (false_from_ne_true (is_named t (text bytes)) (λ named. apart (sym e ∙ of_named named)))
  where
    apart : false ≡ true → ⊥
    apart f = absurd cc

-- ---- a search for a zero byte from the end

taken_len : (bytes : List ℕ) (n : ℕ) → n < length bytes → length (take n bytes) ≡ n
taken_len bytes n lt = length-take-le n bytes (omega arith)

pub with_zero : (bytes t : List ℕ) (k : ℕ) → length t < length bytes → IsLastByte (is_byte 0) (take (length t) bytes) (Some k) → is_named t (text bytes) ≡ false
with_zero bytes t k lt h =
    let below : k < length t = omega (arith, h.0.high, taken_len bytes (length t) lt) in
    zero_inside bytes t k below (ap is_zero (sym (get_or-take (length t) bytes k 0 below)) ∙ h.1)

pub without_zero : (bytes t : List ℕ) → length t < length bytes → slice_get bytes (length t) ≡ Some 0 → IsLastByte (is_byte 0) (take (length t) bytes) None → is_named t (text bytes) ≡ bytes_eq t (take (length t) bytes)
without_zero bytes t lt e h =
    compared bytes t e (λ k below. false_from_ne_true (is_zero (get_or bytes k 0)) (λ hit. h k (omega arith) (omega (arith, below, taken_len bytes (length t) lt)) (ap is_zero (get_or-take (length t) bytes k 0 below) ∙ hit)))

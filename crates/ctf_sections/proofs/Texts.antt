-- A search for a zero byte finds the end of a text.
use Rattle.std.proofs.Common.{◌≡◌, ℕ, zero, suc, ◌+◌, ◌<◌, Bool, true, false, List, [], ◌∷◌, length, get_or, take, Option, Some, None, refl, sym, ap, ◌∙◌, arith}
use Rattle.std.proofs.Math.Dec.{leb-zero, leb-suc-zero, leb-suc-suc}
use Rattle.std.specs.Option.{option_map}
use Rattle.std.specs.Prelude.{if◌then◌else◌, nat_le}
use Rattle.std.specs.List.{list_any, before_first, position_or_len}
use Rattle.std.proofs.lemmas.Bool.{false_from_ne_true}
use Rattle.std.proofs.lemmas.List.{get_or_default, take_all}
use Rattle.std.proofs.lemmas.List.Folds.{list_any_at, list_any_none}
use Rattle.std.proofs.lemmas.List.Sums.{position_or_len_is}
use Rattle.memchr.specs.Find.{IsFirstByte, is_byte}
use Rattle.ctf_model.specs.format.Name.{is_zero, text}
use Rattle.ctf_sections.specs.ShortNames.{if_short}

-- inside a list the default does not matter
same : (bytes : List ℕ) (k d : ℕ) → k < length bytes → is_zero (get_or bytes k d) ≡ true → is_zero (get_or bytes k 0) ≡ true
same bytes k d lt hit = rw (get_or_default bytes k 0 d lt) hit

pub text_none : (bytes : List ℕ) → IsFirstByte (is_byte 0) bytes None → text bytes ≡ None
text_none bytes h = rw (list_any_none is_zero bytes (λ k d lt. false_from_ne_true _ (λ hit. h k (omega arith) lt (same bytes k d lt hit)))) refl

pub text_found : (bytes : List ℕ) (k : ℕ) → IsFirstByte (is_byte 0) bytes (Some k) → text bytes ≡ Some (take k bytes)
text_found bytes k h = rw (list_any_at is_zero bytes k 0 h.0.high h.1, position_or_len_is is_zero bytes k 0 (omega arith) (λ j lt. false_from_ne_true _ (λ hit. h.0.before j (omega arith) lt hit)) (λ lt. h.1)) refl

-- the bytes before the first zero byte
pub front_before : (bytes : List ℕ) (k : ℕ) → IsFirstByte (is_byte 0) bytes (Some k) → take k bytes ≡ before_first is_zero bytes
front_before bytes k h = rw (position_or_len_is is_zero bytes k 0 (omega arith) (λ j lt. false_from_ne_true _ (λ hit. h.0.before j (omega arith) lt hit)) (λ lt. h.1)) refl

-- without a zero byte, these are all bytes
pub all_before : (bytes : List ℕ) → IsFirstByte (is_byte 0) bytes None → bytes ≡ before_first is_zero bytes
all_before bytes h = sym (ap (λ (n : ℕ). take n bytes) (position_or_len_is is_zero bytes (length bytes) 0 (omega arith) (λ j lt. false_from_ne_true _ (λ hit. h j (omega arith) lt hit)) (λ lt. absurd (omega arith))) ∙ take_all (length bytes) bytes (omega arith))

-- the search finds the end of the text
pub text_is : (bytes : List ℕ) (r : Option ℕ) → IsFirstByte (is_byte 0) bytes r → text bytes ≡ option_map (λ k. take k bytes) r
text_is bytes None h = text_none bytes h
text_is bytes (Some k) h = text_found bytes k h

-- ---- texts up to a length

pub text_cons_case : (x : ℕ) (xs : List ℕ) (t : Bool) → is_zero x ≡ t → text (x ∷ xs) ≡ (if t then Some [] else option_map (λ b. x ∷ b) (text xs))
text_cons_case x xs true e = rw e refl
text_cons_case x xs false e = let one : 1 + position_or_len is_zero xs ≡ suc (position_or_len is_zero xs) = omega arith in rw (e, one) (any (list_any is_zero xs) refl)
  where
    any : (u : Bool) → list_any is_zero xs ≡ u → (if u then Some (x ∷ before_first is_zero xs) else None) ≡ option_map (λ b. x ∷ b) (text xs)
    any true f = rw f refl
    any false f = rw f refl

short_cons : (most x : ℕ) (o : Option (List ℕ)) → if_short (suc most) (option_map (λ b. x ∷ b) o) ≡ option_map (λ b. x ∷ b) (if_short most o)
short_cons most x None = refl
short_cons most x (Some b) = by (nat_le (length b) most) refl
  where
    by : (t : Bool) → nat_le (length b) most ≡ t → if_short (suc most) (Some (x ∷ b)) ≡ option_map (λ b. x ∷ b) (if_short most (Some b))
    by true e = rw (leb-suc-suc (length b) most, e) refl
    by false e = rw (leb-suc-suc (length b) most, e) refl

none_short : (x : ℕ) (o : Option (List ℕ)) → if_short 0 (option_map (λ b. x ∷ b) o) ≡ None
none_short x None = refl
none_short x (Some b) = rw (leb-suc-zero (length b)) refl

short_case : (x : ℕ) (xs : List ℕ) → ((m : ℕ) → if_short m (text xs) ≡ text (take (suc m) xs)) → (most : ℕ) (t : Bool) → is_zero x ≡ t → if_short most (text (x ∷ xs)) ≡ text (x ∷ take most xs)
short_case x xs rest most true e = rw (text_cons_case x xs true e, text_cons_case x (take most xs) true e, leb-zero most) refl
short_case x xs rest zero false e = rw (text_cons_case x xs false e, text_cons_case x [] false e) (none_short x (text xs))
short_case x xs rest (suc m) false e = rw (text_cons_case x xs false e, text_cons_case x (take (suc m) xs) false e, ← rest m) (short_cons m x (text xs))

short_by : (bytes : List ℕ) (most : ℕ) → if_short most (text bytes) ≡ text (take (suc most) bytes)
short_by [] most = refl
short_by (x ∷ xs) most = short_case x xs (short_by xs) most (is_zero x) refl

pub short_text_is : (bytes : List ℕ) (most : ℕ) (r : Option ℕ) → IsFirstByte (is_byte 0) (take (most + 1) bytes) r → if_short most (text bytes) ≡ option_map (λ k. take k (take (most + 1) bytes)) r
short_text_is bytes most r h = let one : suc most ≡ most + 1 = omega arith in short_by bytes most ∙ ap (λ n. text (take n bytes)) one ∙ text_is (take (most + 1) bytes) r h

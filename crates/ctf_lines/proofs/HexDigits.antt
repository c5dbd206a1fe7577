-- The byte of two hex digits, and the state after one more pair.
use Rattle.std.proofs.Common.{◌≡◌, ℕ, ◌+◌, ◌-◌, ◌*◌, ◌<◌, ◌≤◌, ◌++◌, ◌&&◌, get_or, inl, inr, Bool, true, false, List, length, take, drop, slice_index, slice_set, Option, Some, None, Result, Ok, Err, refl, sym, ap, ◌∙◌, arith}
use Rattle.std.specs.Prelude.{IfSome, MatchBool, is_some}
use Rattle.std.specs.Simd.Lanes.{chunk}
use Rattle.std.proofs.lemmas.Bool.{cases_lt}
use Rattle.std.proofs.lemmas.List.{get_or-append_right, get_or_append_left}
use Rattle.std.proofs.lemmas.Simd.{get_or-chunk, length-chunk}
use Rattle.hex.specs.Hex.{decode_pairs, hex_digit_value, is_hex_digit, pair_value}
use Rattle.hex.proofs.Pairs.{decode_err, decode_start, decode_step, prepend}
use Rattle.ctf_lines.specs.Decoded.{IsDecodedTo, IsNoHex, before}
use Rattle.hex.specs.declared.error.FromHexError.{FromHexError}
use Rattle.hex.specs.declared.error.FromHexError.TheVariants.{InvalidHexCharacter}

-- a pair is the byte of its digits, or one of them is no digit
pair_said : (high low a b : ℕ) (x y : Option ℕ) → hex_digit_value high ≡ x → hex_digit_value low ≡ y → IfSome x (λ n. a ≡ n) → IfSome y (λ n. b ≡ n)
    → MatchBool (is_some x && is_some y) ((i : ℕ) → pair_value high low i ≡ Ok (16 * a + b)) ((i : ℕ) → (e : FromHexError) × (pair_value high low i ≡ Err e))
pair_said high low a b None y e f h k = λ i. (InvalidHexCharacter high i, rw e refl)
pair_said high low a b (Some v) None e f h k = λ i. (InvalidHexCharacter low (i + 1), rw (e, f) refl)
pair_said high low a b (Some v) (Some w) e f h k = λ i. rw (e, f) (ap Ok (omega (arith, h, k)))

-- the same, if both are known to be digits or not
pub pair_known : (high low a b : ℕ) (p q : Bool) → p ≡ is_hex_digit high → q ≡ is_hex_digit low → IfSome (hex_digit_value high) (λ n. a ≡ n) → IfSome (hex_digit_value low) (λ n. b ≡ n)
    → MatchBool (p && q) ((i : ℕ) → pair_value high low i ≡ Ok (16 * a + b)) ((i : ℕ) → (e : FromHexError) × (pair_value high low i ≡ Err e))
pair_known high low a b p q f g h k = rw (f, g) (pair_said high low a b (hex_digit_value high) (hex_digit_value low) refl refl h k)

-- combines the facts so far with those of one more pair
pub and_one : {Sofar One Then Bad BadOne : Type 0} (all good : Bool) → MatchBool all Sofar Bad → MatchBool good One BadOne → (Sofar → One → Then) → (Sofar → BadOne → Bad)
    → MatchBool (all && good) Then Bad
and_one true true so_far one further fails = further so_far one
and_one true false so_far bad further fails = fails so_far bad
and_one false true bad one further fails = bad
and_one false false bad one further fails = bad

pub at_end : {Sofar Then : Type 0} (Bad : Type 0) (all : Bool) → MatchBool all Sofar Bad → (Sofar → Then) → MatchBool all Then Bad
at_end Bad true so_far further = further so_far
at_end Bad false bad further = bad

-- the crate hex has its own function for what comes before
same_front : (front : List ℕ) (r : Result (List ℕ) FromHexError) → before front r ≡ prepend front r
same_front front (Ok rest) = refl
same_front front (Err e) = refl

pub to_hex : (digits bytes : List ℕ) (i : ℕ) → IsDecodedTo digits bytes i → decode_pairs 0 digits ≡ prepend (take i bytes) (decode_pairs (2 * i) (drop (2 * i) digits))
to_hex digits bytes i is = is ∙ same_front (take i bytes) (decode_pairs (2 * i) (drop (2 * i) digits))

of_hex : (digits bytes : List ℕ) (i : ℕ) → decode_pairs 0 digits ≡ prepend (take i bytes) (decode_pairs (2 * i) (drop (2 * i) digits)) → IsDecodedTo digits bytes i
of_hex digits bytes i is = is ∙ sym (same_front (take i bytes) (decode_pairs (2 * i) (drop (2 * i) digits)))

-- nothing is decoded yet
pub none_yet : (digits bytes : List ℕ) → IsDecodedTo digits bytes 0
none_yet digits bytes = of_hex digits bytes 0 (decode_start digits bytes)

-- one more pair
pub one_more : (digits bytes : List ℕ) (i next high low v : ℕ) (all good : Bool) → next ≡ i + 1 → length digits ≡ 2 * length bytes → i < length bytes
    → high ≡ slice_index digits (2 * i) → low ≡ slice_index digits (2 * i + 1)
    → MatchBool all (IsDecodedTo digits bytes i) (IsNoHex digits)
    → MatchBool good ((n : ℕ) → pair_value high low n ≡ Ok v) ((n : ℕ) → (e : FromHexError) × (pair_value high low n ≡ Err e))
    → MatchBool (all && good) (IsDecodedTo digits (slice_set bytes i v) next) (IsNoHex digits)
one_more digits bytes i next high low v all good following len room first second before one =
    rw following (and_one all good before one
    (λ so_far is. of_hex digits (slice_set bytes i v) (i + 1) (decode_step digits bytes i v (omega (arith, len)) room (rw (← first, ← second) (is (2 * i))) (to_hex digits bytes i so_far)))
    (λ so_far bad. let b = bad (2 * i) in (b.0, decode_err digits bytes i b.0 (omega (arith, len)) (rw (← first, ← second) b.1) (to_hex digits bytes i so_far))))

-- two consecutive loads
pub get_or-two_chunks : (digits : List ℕ) (at k : ℕ) → k < 128 → at + 128 ≤ length digits
    → get_or (chunk at 64 digits ++ chunk (at + 64) 64 digits) k 0 ≡ get_or digits (at + k) 0
get_or-two_chunks digits at k small room = elim (cases_lt k 64) [
  | inl front ↦ get_or_append_left (chunk at 64 digits) (chunk (at + 64) 64 digits) 0 k (omega (arith, length-chunk at 64 digits (omega arith))) ∙ get_or-chunk at 64 digits k 0 front
  | inr back ↦ get_or-append_right (chunk at 64 digits) (chunk (at + 64) 64 digits) 64 k 0 (length-chunk at 64 digits (omega arith)) back ∙ get_or-chunk (at + 64) 64 digits (k - 64) 0 (omega arith) ∙ ap (λ n. get_or digits n 0) (omega arith)
]

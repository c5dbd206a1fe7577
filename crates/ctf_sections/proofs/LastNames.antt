-- A table has a name at each offset up to its last zero byte, and none after it.
use Rattle.std.proofs.Common.{◌≡◌, ℕ, ◌+◌, ◌-◌, ◌<◌, ◌≤◌, true, false, leb, List, length, get_or, drop, Some, None, refl, sym, ap, ◌∙◌, arith, ⊎_elim, length-drop}
use Rattle.std.specs.Prelude.{is_none}
use Rattle.std.proofs.lemmas.Bool.{false_from_ne_true, cases_lt, le-leb, lt-leb}
use Rattle.std.proofs.lemmas.List.{get_or_default, get_or-drop}
use Rattle.std.proofs.lemmas.List.Folds.{list_any_at, list_any_none}
use Rattle.memchr.specs.Find.{IsLastByte, is_byte}
use Rattle.ctf_model.specs.format.Name.{is_zero, text_at}

none_from : (bytes : List ℕ) (at : ℕ) → ((k : ℕ) → at ≤ k → k < length bytes → is_zero (get_or bytes k 0) ≡ false) → is_none (text_at (Some bytes) at) ≡ true
none_from bytes at h = rw (list_any_none is_zero (drop at bytes) (λ k d lt. here k d lt)) refl
  where
    here : (k d : ℕ) → k < length (drop at bytes) → is_zero (get_or (drop at bytes) k d) ≡ false
    here k d lt =
        let inside : at + k < length bytes = omega (arith, length-drop at bytes) in
        ap is_zero (get_or-drop at bytes k d ∙ sym (get_or_default bytes (at + k) 0 d inside)) ∙ h (at + k) (omega arith) inside

some_before : (bytes : List ℕ) (at k : ℕ) → at ≤ k → k < length bytes → is_zero (get_or bytes k 0) ≡ true → is_none (text_at (Some bytes) at) ≡ false
some_before bytes at k le lt hit =
    let there : at + (k - at) ≡ k = omega arith in
    let inside : k - at < length (drop at bytes) = omega (arith, length-drop at bytes) in
    let found = ap is_zero (get_or-drop at bytes (k - at) 0 ∙ ap (λ (i : ℕ). get_or bytes i 0) there) ∙ hit in
    rw (list_any_at is_zero (drop at bytes) (k - at) 0 inside found) refl

-- a table without a zero byte has no name
pub none_at_all : (bytes : List ℕ) → IsLastByte (is_byte 0) bytes None → (at : ℕ) → is_none (text_at (Some bytes) at) ≡ leb 0 at
none_at_all bytes h at = none_from bytes at (λ k le lt. false_from_ne_true _ (λ hit. h k (omega arith) lt hit)) ∙ sym (le-leb 0 at (omega arith))

-- names begin up to the last zero byte of a table
pub up_to_last : (bytes : List ℕ) (last : ℕ) → IsLastByte (is_byte 0) bytes (Some last) → (at : ℕ) → is_none (text_at (Some bytes) at) ≡ leb (last + 1) at
up_to_last bytes last h at = ⊎_elim
    (λ lt. some_before bytes at last (omega arith) h.0.high h.1 ∙ sym (lt-leb (last + 1) at lt))
    (λ le. none_from bytes at (λ k from lt. false_from_ne_true _ (λ hit. h.0.after k (omega arith) lt hit)) ∙ sym (le-leb (last + 1) at le))
    (cases_lt at (last + 1))

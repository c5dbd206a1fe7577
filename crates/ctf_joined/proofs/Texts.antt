-- One more text in a list, and the text at an index.
use Rattle.std.proofs.Common.{◌≡◌, ℕ, zero, suc, ◌+◌, ◌-◌, ◌<◌, ◌≤◌, ◌==◌, ◌&&◌, List, [], ◌∷◌, ◌++◌, Bool, true, false, drop, get_or, length, nat_le, take, refl, sym, ap, ◌∙◌, subst, arith}
use Rattle.std.proofs.lemmas.Bool.{false≢true, eqb-true}
use Rattle.std.proofs.lemmas.List.{drop-append-le, length-append, length-drop, take-append-le}
use Rattle.std.proofs.Math.Seq.{drop-append_seam, take-length}
use Rattle.ctf_joined.specs.Texts.{rise, texts_from}

pub texts-length : (bytes : List ℕ) (from : ℕ) (ends : List ℕ) → length (texts_from bytes from ends) ≡ length ends
texts-length bytes from [] = refl
texts-length bytes from (end ∷ ends) = ap suc (texts-length bytes end ends)

both_true : (a b : Bool) → a && b ≡ true → (a ≡ true) × (b ≡ true)
both_true true b e = (refl, e)
both_true false b e = absurd (false≢true e)

rise-parts : (from end : ℕ) (ends : List ℕ) (last : ℕ) → rise from (end ∷ ends) last ≡ true → (from ≤ end) × (rise end ends last ≡ true)
rise-parts from end ends last r =
    let parts = both_true (nat_le from end) (rise end ends last) r in
    (grind (arith, parts), parts.1)

pub rise-within : (from : ℕ) (ends : List ℕ) (last : ℕ) → rise from ends last ≡ true → from ≤ last
rise-within from [] last r =
    let same = eqb-true from last r in
    omega (arith, same)
rise-within from (end ∷ ends) last r =
    let parts = rise-parts from end ends last r in
    let step = parts.0 in
    let more = rise-within end ends last parts.1 in
    omega (arith, step, more)

-- ---- the text at an index

pub text-at : (bytes : List ℕ) (from : ℕ) (ends : List ℕ) (i : ℕ) → i < length ends → get_or (texts_from bytes from ends) i [] ≡ take (get_or ends i 0 - get_or (from ∷ ends) i 0) (drop (get_or (from ∷ ends) i 0) bytes)
text-at bytes from [] i h = absurd (omega arith)
text-at bytes from (end ∷ ends) zero h = refl
text-at bytes from (end ∷ ends) (suc i) h = text-at bytes end ends i (omega (arith, h))

pub text-inside : (from : ℕ) (ends : List ℕ) (last i : ℕ) → rise from ends last ≡ true → i < length ends → (get_or (from ∷ ends) i 0 ≤ get_or ends i 0) × (get_or ends i 0 ≤ last)
text-inside from [] last i r h = absurd (omega arith)
text-inside from (end ∷ ends) last zero r h =
    let parts = rise-parts from end ends last r in
    (parts.0, rise-within end ends last parts.1)
text-inside from (end ∷ ends) last (suc i) r h = text-inside end ends last i (rise-parts from end ends last r).1 (omega (arith, h))

-- ---- one more text

true-le : (a b : ℕ) → a ≤ b → nat_le a b ≡ true
true-le a b h = grind (arith, h)

and-true : (a b : Bool) → a ≡ true → b ≡ true → a && b ≡ true
and-true true b e f = f
and-true false b e f = absurd (false≢true e)

eqb-refl : (n : ℕ) → n == n ≡ true
eqb-refl n = grind arith

pub rise-more : (from : ℕ) (ends : List ℕ) (last new : ℕ) → rise from ends last ≡ true → last ≤ new → rise from (ends ++ new ∷ []) new ≡ true
rise-more from [] last new r h =
    let same = eqb-true from last r in
    and-true (nat_le from new) (new == new) (true-le from new (omega (arith, same, h))) (eqb-refl new)
rise-more from (end ∷ ends) last new r h =
    let parts = rise-parts from end ends last r in
    and-true (nat_le from end) (rise end (ends ++ new ∷ []) new) (true-le from end parts.0) (rise-more end ends last new parts.1 h)

last-text : (bytes text : List ℕ) → take (length bytes + length text - length bytes) (drop (length bytes) (bytes ++ text)) ≡ text
last-text bytes text =
    let len : length bytes + length text - length bytes ≡ length text = omega arith in
    ap (λ n. take n (drop (length bytes) (bytes ++ text))) len ∙ ap (take (length text)) (drop-append_seam bytes text) ∙ take-length text

same-text : (bytes text : List ℕ) (from end : ℕ) → from ≤ end → end ≤ length bytes → take (end - from) (drop from (bytes ++ text)) ≡ take (end - from) (drop from bytes)
same-text bytes text from end h k =
    let len = length-drop from bytes in
    ap (take (end - from)) (drop-append-le from bytes text (omega (arith, h, k))) ∙ take-append-le (end - from) (drop from bytes) text (omega (arith, h, k, len))

pub texts-more : (bytes text : List ℕ) (from : ℕ) (ends : List ℕ) → rise from ends (length bytes) ≡ true → texts_from (bytes ++ text) from (ends ++ (length bytes + length text) ∷ []) ≡ texts_from bytes from ends ++ text ∷ []
texts-more bytes text from [] r =
    let same : from ≡ length bytes = eqb-true from (length bytes) r in
    ap (λ f. take (length bytes + length text - f) (drop f (bytes ++ text)) ∷ []) same ∙ ap (λ l. l ∷ []) (last-text bytes text)
texts-more bytes text from (end ∷ ends) r =
    let parts = rise-parts from end ends (length bytes) r in
    let within = rise-within end ends (length bytes) parts.1 in
    ap (λ l. l ∷ texts_from (bytes ++ text) end (ends ++ (length bytes + length text) ∷ [])) (same-text bytes text from end parts.0 within)
    ∙ ap (λ l. take (end - from) (drop from bytes) ∷ l) (texts-more bytes text end ends parts.1)

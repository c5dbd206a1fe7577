-- Texts with commas between them, one more at a time.
use Rattle.std.proofs.Common.{◌≡◌, ℕ, ◌+◌, ◌<◌, true, List, [], ◌∷◌, ◌++◌, length, get_or, take, drop, ◌∙◌, ap, refl, sym, append_assoc, append-nil, arith}
use Rattle.std.specs.Prelude.{nat_lt}
use Rattle.std.proofs.lemmas.Bool.{lt-ltb}
use Rattle.std.proofs.lemmas.Grind.{flat_map-append}
use Rattle.std.proofs.lemmas.List.{take_more, length-take, take-append-drop}
use Rattle.ctf_model.specs.dumps.Texts.{after_commas, with_commas}
use Rattle.ctf_lines.specs.Commas.{comma_before}

-- one more text
separated-push : (xs : List (List ℕ)) (y : List ℕ) → with_commas (xs ++ y ∷ []) ≡ with_commas xs ++ (comma_before (length xs) ++ y)
separated-push [] y = append-nil y
separated-push (x ∷ xs) y =
    let some : nat_lt 0 (length (x ∷ xs)) ≡ true = lt-ltb 0 (length (x ∷ xs)) (omega arith) in
    rw some (ap (λ (t : List ℕ). x ++ t) (flat_map-append (λ (t : List ℕ). 44 ∷ t) xs (y ∷ []) ∙ ap (λ (t : List ℕ). after_commas xs ++ t) (append-nil (44 ∷ y))) ∙ sym (append_assoc x (after_commas xs) (44 ∷ y)))

-- some texts, and the rest of more
split : (xs ys : List (List ℕ)) → (rest : List ℕ) × (with_commas xs ++ rest ≡ with_commas (xs ++ ys))
split [] ys = (with_commas ys, refl)
split (x ∷ xs) ys = (after_commas ys, append_assoc x (after_commas xs) (after_commas ys) ∙ ap (λ (t : List ℕ). x ++ t) (sym (flat_map-append (λ (t : List ℕ). 44 ∷ t) xs ys)))

-- the first `k` texts
abbrev pub first : List (List ℕ) → ℕ → List ℕ
first texts k = with_commas (take k texts)

pub first-next : (texts : List (List ℕ)) (k : ℕ) → k < length texts → first texts (k + 1) ≡ first texts k ++ (comma_before k ++ get_or texts k [])
first-next texts k below =
    let len : length (take k texts) ≡ k = omega (arith, length-take k texts, below) in
    ap with_commas (take_more texts k [] below)
    ∙ separated-push (take k texts) (get_or texts k [])
    ∙ ap (λ (n : ℕ). first texts k ++ (comma_before n ++ get_or texts k [])) len

-- the rest
pub first-rest : (texts : List (List ℕ)) (k : ℕ) → (rest : List ℕ) × (first texts k ++ rest ≡ with_commas texts)
first-rest texts k =
    let parts = split (take k texts) (drop k texts) in
    (parts.0, parts.1 ∙ ap with_commas (take-append-drop k texts))

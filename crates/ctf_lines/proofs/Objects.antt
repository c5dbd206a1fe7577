-- Objects of two and three parts, appended part by part.
use Rattle.std.proofs.Common.{◌≡◌, ℕ, List, [], ◌∷◌, ◌++◌, append_assoc, sym, ap, ◌∙◌}
use Rattle.ctf_model.specs.dumps.Texts.{with_commas}

pub two_parts : (a b : List ℕ) → a ++ (44 ∷ (b ++ (125 ∷ []))) ≡ with_commas (a ∷ b ∷ []) ++ (125 ∷ [])
two_parts a b =
    sym (append_assoc a (44 ∷ (b ++ [])) (125 ∷ [])
    ∙ ap (λ (t : List ℕ). a ++ (44 ∷ t)) (append_assoc b [] (125 ∷ [])))

-- two parts before what follows
pub two_before : (a b e : List ℕ) → a ++ (44 ∷ (b ++ e)) ≡ with_commas (a ∷ b ∷ []) ++ e
two_before a b e =
    sym (append_assoc a (44 ∷ (b ++ [])) e
    ∙ ap (λ (t : List ℕ). a ++ (44 ∷ t)) (append_assoc b [] e))

-- three parts before what follows
pub three_before : (a b c e : List ℕ) → a ++ (44 ∷ (b ++ (44 ∷ (c ++ e)))) ≡ with_commas (a ∷ b ∷ c ∷ []) ++ e
three_before a b c e =
    sym (append_assoc a (44 ∷ (b ++ (44 ∷ (c ++ [])))) e
    ∙ ap (λ (t : List ℕ). a ++ (44 ∷ t)) (append_assoc b (44 ∷ (c ++ [])) e
    ∙ ap (λ (t : List ℕ). b ++ (44 ∷ t)) (append_assoc c [] e)))

pub three_parts : (a b c : List ℕ) → a ++ (44 ∷ (b ++ (44 ∷ (c ++ (125 ∷ []))))) ≡ with_commas (a ∷ b ∷ c ∷ []) ++ (125 ∷ [])
three_parts a b c = three_before a b c (125 ∷ [])

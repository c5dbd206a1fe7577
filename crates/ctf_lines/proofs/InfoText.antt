-- The fields about a whole dictionary, appended piece by piece.
use Rattle.std.proofs.Common.{◌≡◌, ℕ, List, [], ◌∷◌, ◌++◌, codes, append_assoc}
use Rattle.ctf_model.specs.dumps.Texts.{with_commas}

pub info_text : (child draft imported labels parlabel parname pending types : List ℕ)
    → child ++ ((44 ∷ draft) ++ ((44 ∷ imported) ++ ((codes ",\"labels\":" ++ (labels ++ codes ",\"parlabel\":"))
    ++ (parlabel ++ (codes ",\"parname\":" ++ (parname ++ ((codes ",\"pending\":" ++ (pending ++ codes ",\"types\":")) ++ ([] ++ (types ++ [])))))))))
    ≡ with_commas (child ∷ draft ∷ imported ∷ (codes "\"labels\":" ++ labels) ∷ (codes "\"parlabel\":" ++ parlabel)
    ∷ (codes "\"parname\":" ++ parname) ∷ (codes "\"pending\":" ++ pending) ∷ (codes "\"types\":" ++ types) ∷ [])
info_text child draft imported labels parlabel parname pending types = simp append_assoc

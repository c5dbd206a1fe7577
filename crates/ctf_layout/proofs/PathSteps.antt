-- A path, step by step.
use Rattle.std.proofs.Common.{◌≡◌, ◌+◌, ◌≤◌, ◌<◌, ℕ, List, [], ◌∷◌, drop, length, Ok, get_or, refl, sym, ap, ◌∙◌}
use Rattle.std.proofs.lemmas.List.{drop_more, drop_all}
use Rattle.ctf_model.specs.figures.Paths.{Position, and_on, path_from, step_to}
use Rattle.ctf_model.specs.spaces.Space.{Space}

cons_case : (s : Space) (step : ℕ) (name : List ℕ) (names : List (List ℕ)) (at : Position) → path_from s step (name ∷ names) at ≡ and_on (step_to s step name at) (path_from s (step + 1) names)
unfolding path_from
cons_case s step name names at = refl

-- a step by its name, then the names after it
pub path_next : (s : Space) (step : ℕ) (names : List (List ℕ)) (name : List ℕ) (at : Position) → step < length names → name ≡ get_or names step []
    → path_from s step (drop step names) at ≡ and_on (step_to s step name at) (path_from s (step + 1) (drop (step + 1) names))
path_next s step names name at lt is =
    ap (λ (xs : List (List ℕ)). path_from s step xs at) (drop_more names step [] lt)
    ∙ cons_case s step (get_or names step []) (drop (step + 1) names) at
    ∙ ap (λ (n : List ℕ). and_on (step_to s step n at) (path_from s (step + 1) (drop (step + 1) names))) (sym is)

nil_case : (s : Space) (step : ℕ) (at : Position) → path_from s step [] at ≡ Ok at
unfolding path_from
nil_case s step at = refl

-- after the last name
pub path_end : (s : Space) (step : ℕ) (names : List (List ℕ)) (at : Position) → length names ≤ step → path_from s step (drop step names) at ≡ Ok at
path_end s step names at le = ap (λ (xs : List (List ℕ)). path_from s step xs at) (drop_all step names le) ∙ nil_case s step at

-- Names added one after another. Source: ours.
use Rattle.std.specs.Prelude.{ℕ, List, [], ◌∷◌, ◌++◌, if◌then◌else◌}
use Rattle.std.specs.List.{list_any}
use Rattle.std.specs.Str.{bytes_eq}
use Rattle.ctf_model.specs.writing.WrittenNames.{is_empty}

-- the names, with one appended unless it is empty or already there
abbrev pub with_name : List (List ℕ) → List ℕ → List (List ℕ)
with_name names name =
    if is_empty name then names
    else if list_any (bytes_eq name) names then names
    else names ++ name ∷ []

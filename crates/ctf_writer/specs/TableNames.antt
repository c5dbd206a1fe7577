-- The names in a string section, and where they begin. Source: ours, over "String Identifiers" of
-- ctf(5).
use Rattle.std.specs.Prelude.{ℕ, ◌+◌, not, Bool, List, [], ◌∷◌, ◌++◌, length, map, drop, Option, None, Some, if◌then◌else◌}
use Rattle.std.specs.Borrow.{Bor}
use Rattle.std.specs.List.{filter, list_any}
use Rattle.std.specs.Str.{bytes_eq}
use Rattle.ctf_model.specs.format.Name.{is_zero}
use Rattle.ctf_model.specs.writing.WrittenNames.{is_empty}

-- the names in these bytes, if the first one begins with the bytes `front`: each ends before a zero
-- byte, the last maybe with the bytes
abbrev pub names_from : List ℕ → List ℕ → List (List ℕ)
names_from front [] = if is_empty front then [] else front ∷ []
names_from front (b ∷ bytes) =
    if is_zero b then front ∷ names_from [] bytes else names_from (front ++ b ∷ []) bytes

-- the names behind the first byte of a string section
abbrev pub names_within : List ℕ → List (List ℕ)
names_within table = names_from [] (drop 1 table)

-- where a name begins, if these names begin at `at`
abbrev pub place_from : ℕ → List (List ℕ) → List ℕ → Option ℕ
place_from at [] text = None
place_from at (name ∷ names) text =
    if bytes_eq text name then Some at else place_from (at + length name + 1) names text

-- these names, and behind them those that they lack
abbrev pub joined : List (List ℕ) → List (List ℕ) → List (List ℕ)
joined names more = names ++ filter (λ name. not (list_any (bytes_eq name) names)) more

-- the names of a string section, and those that are added behind it
abbrev pub all_names : List ℕ → List (Bor (List ℕ)) → List (List ℕ)
all_names before added = names_within before ++ map (λ name. name.now) added

-- the test of a look-up by name
abbrev pub is_name : List ℕ → Bor (List ℕ) → Bool
is_name text key = bytes_eq text key.now

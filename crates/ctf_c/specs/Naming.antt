-- Names in a caller's bytes. Source: ours.
use Rattle.std.specs.Prelude.{ℕ, ◌==◌, List, [], ◌∷◌, ◌++◌, if◌then◌else◌}

-- the last name, whose zero byte may be missing
abbrev pub last_name : List ℕ → List (List ℕ)
last_name [] = []
last_name (b ∷ bytes) = (b ∷ bytes) ∷ []

-- the remaining names, where `front` is the start of the first one
unfoldable pub names_from : List ℕ → List ℕ → List (List ℕ)
names_from front [] = last_name front
names_from front (b ∷ bytes) =
    if b == 0 then front ∷ names_from [] bytes else names_from (front ++ b ∷ []) bytes

-- the names in some bytes, each ended by a zero byte
abbrev pub names_in_bytes : List ℕ → List (List ℕ)
names_in_bytes bytes = names_from [] bytes

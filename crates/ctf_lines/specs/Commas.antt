-- Commas between texts.
use Rattle.std.specs.Prelude.{ℕ, nat_lt, List, [], ◌∷◌, if◌then◌else◌}

-- the separator before text number `k`
abbrev pub comma_before : ℕ → List ℕ
comma_before k = if nat_lt 0 k then 44 ∷ [] else []

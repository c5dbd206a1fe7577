-- Names up to a length, and comparison with a name. Source: ours.
use Rattle.std.specs.Prelude.{ℕ, Bool, false, List, length, Option, Some, None, nat_le, if◌then◌else◌}
use Rattle.std.specs.Str.{bytes_eq}

-- the text, if it has at most `most` bytes
abbrev pub if_short : ℕ → Option (List ℕ) → Option (List ℕ)
if_short most None = None
if_short most (Some text) = if nat_le (length text) most then Some text else None

-- whether the text equals the name, if there is one
abbrev pub is_named : List ℕ → Option (List ℕ) → Bool
is_named text None = false
is_named text (Some name) = bytes_eq text name

-- The size of a dictionary in bytes. Source: ours.
use Rattle.std.specs.Prelude.{ℕ, ◌+◌, length, Option, None, Some, unwrap_or, []}
use Rattle.ctf_model.specs.format.Lists.{Lists}
use Rattle.ctf_model.specs.spaces.Kept.{Kept}

-- the bytes of all lists; an absent list has none
abbrev pub lists_bytes : Lists → ℕ
lists_bytes lists =
    length lists.ctf + (length (unwrap_or lists.sym []) + length (unwrap_or lists.strs []))

abbrev pub kept_bytes : Kept → ℕ
kept_bytes kept = lists_bytes kept.lists

abbrev pub parent_bytes : Option Kept → ℕ
parent_bytes None = 0
parent_bytes (Some parent) = kept_bytes parent

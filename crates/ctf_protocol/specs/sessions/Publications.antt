-- A session's published dictionaries and their names. Source: ours.
use Rattle.std.specs.Prelude.{filter, not, ℕ, ◌==◌, ◌&&◌, ◌||◌, nat_eq, nat_le, List, [], ◌∷◌, length, Bool, Option, None, Some, if◌then◌else◌}
use Rattle.std.specs.Cmp.Lexicographic.{pointwise}
use Rattle.std.specs.List.{list_all}
use Rattle.ctf_model.specs.spaces.Kept.{Kept}
use Rattle.ctf_protocol.specs.sessions.State.{Publication}

-- ---- names

-- the greatest length of a publication's name, in bytes
abbrev pub longest_name : ℕ
longest_name = 64

-- `n` is between `low` and `high`
abbrev pub is_between : ℕ → ℕ → ℕ → Bool
is_between low high n = nat_le low n && nat_le n high

-- an ASCII letter, a digit, `.`, `_` or `-`
abbrev pub is_name_byte : ℕ → Bool
is_name_byte b =
    is_between 0x41 0x5a b || is_between 0x61 0x7a b || is_between 0x30 0x39 b || b == 0x2e
    || b == 0x5f || b == 0x2d

-- a name has 1 to 64 such bytes
abbrev pub is_publication_name : List ℕ → Bool
is_publication_name name = is_between 1 longest_name (length name) && list_all is_name_byte name

-- ---- publications

-- the publications without the one of this name
abbrev pub published_without : List ℕ → List Publication → List Publication
published_without name publications = filter (λ p. not (pointwise nat_eq p.name name)) publications

-- the dictionary published under this name
abbrev pub published_as : List ℕ → List Publication → Option Kept
published_as name [] = None
published_as name (publication ∷ publications) =
    if pointwise nat_eq publication.name name then Some publication.kept
    else published_as name publications

-- Numbers in bytes, little-endian as in ctf(5): the low byte comes first.
use Rattle.std.specs.Prelude.{ℕ, ◌+◌, ◌*◌, List, [], ◌∷◌, take, drop}

-- the number that the bytes encode; no bytes encode 0
unfoldable pub number : List ℕ → ℕ
number [] = 0
number (b ∷ bs) = b + 256 * number bs

-- the two-byte number at an offset
abbrev pub u16_at : List ℕ → ℕ → ℕ
u16_at bytes at = number (take 2 (drop at bytes))

-- the four-byte number at an offset
abbrev pub u32_at : List ℕ → ℕ → ℕ
u32_at bytes at = number (take 4 (drop at bytes))

-- the eight-byte number at an offset
abbrev pub u64_at : List ℕ → ℕ → ℕ
u64_at bytes at = number (take 8 (drop at bytes))

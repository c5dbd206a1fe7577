-- Parts of texts: plain characters, digits, signed numbers, and lists with commas. Source: ours.
use Rattle.std.specs.Prelude.{ℕ, ℤ, pos, negsuc, ◌+◌, ◌/◌, ◌%◌, ◌++◌, ◌==◌, ◌&&◌, not, nat_le, nat_lt, Bool, List, [], ◌∷◌, decimal, if◌then◌else◌}
use Rattle.std.specs.List.{flat_map}

-- a printable ASCII character other than quote and backslash
abbrev pub is_plain : ℕ → Bool
is_plain b = nat_le 0x20 b && nat_le b 0x7e && not (b == 0x22) && not (b == 0x5c)

-- the lower-case hex digit of a number below 16
abbrev pub hex_digit : ℕ → ℕ
hex_digit n = if nat_lt n 10 then 48 + n else 87 + n

-- a byte as two hex digits
abbrev pub hex_of_byte : ℕ → List ℕ
hex_of_byte b = hex_digit (b / 16) ∷ hex_digit (b % 16) ∷ []

-- a number with its sign in front
abbrev pub signed_decimal : ℤ → List ℕ
signed_decimal (pos n) = decimal n
signed_decimal (negsuc n) = 45 ∷ decimal (n + 1)

-- ---- lists with commas

abbrev pub after_commas : List (List ℕ) → List ℕ
after_commas texts = flat_map (λ text. 44 ∷ text) texts

abbrev pub with_commas : List (List ℕ) → List ℕ
with_commas [] = []
with_commas (text ∷ texts) = text ++ after_commas texts

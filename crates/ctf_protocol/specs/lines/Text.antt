-- Names in lines: how bytes are escaped, and which bytes a text spells. Source: ours.
use Rattle.std.specs.Prelude.{ℕ, ◌+◌, ◌*◌, ◌-◌, ◌/◌, ◌%◌, ◌==◌, ◌&&◌, nat_le, option_and_then, List, [], ◌∷◌, Option, None, Some, if◌then◌else◌}
use Rattle.std.specs.Option.{option_map}
use Rattle.std.specs.List.{flat_map}
use Rattle.ctf_model.specs.dumps.Texts.{is_plain, hex_digit, hex_of_byte}

-- a plain byte unchanged; any other as a backslash (doubled for JSON), `x` and two hex digits
abbrev pub text_of_byte : ℕ → List ℕ
text_of_byte b =
    if is_plain b then b ∷ [] else 0x5c ∷ 0x5c ∷ 0x78 ∷ hex_digit (b / 16) ∷ hex_digit (b % 16) ∷ []

-- the bytes of a name
abbrev pub text_of : List ℕ → List ℕ
text_of name = flat_map text_of_byte name

-- each byte as two hex digits
abbrev pub hex_of : List ℕ → List ℕ
hex_of bs = flat_map hex_of_byte bs

-- ---- reading

-- the value of a lower-case hex digit
abbrev pub digit_value : ℕ → Option ℕ
digit_value c =
    if nat_le 48 c && nat_le c 57 then Some (c - 48)
    else if nat_le 97 c && nat_le c 102 then Some (c - 87)
    else None

-- the byte of two hex digits
abbrev pub byte_value : ℕ → ℕ → Option ℕ
byte_value high low =
    option_and_then (λ h. option_map (λ l. 16 * h + l) (digit_value low)) (digit_value high)

-- a byte before the bytes of the rest, if both can be read
abbrev pub and_bytes : Option ℕ → Option (List ℕ) → Option (List ℕ)
and_bytes byte rest = option_and_then (λ b. option_map (λ bs. b ∷ bs) rest) byte

-- a byte that is its own text
abbrev pub plain_byte : ℕ → Option ℕ
plain_byte c = if is_plain c then Some c else None

-- the bytes that a text spells: plain bytes unchanged, and any byte as a backslash, `x` and two hex
-- digits
unfoldable pub bytes_spelled_by : List ℕ → Option (List ℕ)
bytes_spelled_by [] = Some []
bytes_spelled_by (c ∷ x ∷ high ∷ low ∷ text) =
    if c == 0x5c && x == 0x78 then and_bytes (byte_value high low) (bytes_spelled_by text)
    else and_bytes (plain_byte c) (bytes_spelled_by (x ∷ high ∷ low ∷ text))
bytes_spelled_by (c ∷ text) = and_bytes (plain_byte c) (bytes_spelled_by text)

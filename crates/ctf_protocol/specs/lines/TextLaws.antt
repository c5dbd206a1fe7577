-- Laws of texts that spell bytes. Each is the contract of a function of src/laws.rt.
use Rattle.std.specs.Prelude.{◌≡◌, ℕ, ◌/◌, ◌%◌, ◌==◌, ◌<◌, List, [], ◌∷◌, Some, All, if◌then◌else◌}
use Rattle.std.specs.List.{flat_map}
use Rattle.ctf_model.specs.dumps.Texts.{is_plain, hex_digit}
use Rattle.ctf_protocol.specs.lines.Text.{text_of, bytes_spelled_by}

-- the text of a byte in the value of a JSON string, with JSON's doubled backslash undone
abbrev pub written_byte : ℕ → List ℕ
written_byte b =
    if is_plain b then b ∷ [] else 0x5c ∷ 0x78 ∷ hex_digit (b / 16) ∷ hex_digit (b % 16) ∷ []

abbrev pub bytes_escaped : List ℕ → List ℕ
bytes_escaped bytes = flat_map written_byte bytes

-- JSON doubles a backslash
abbrev pub in_json : ℕ → List ℕ
in_json c = if c == 0x5c then 0x5c ∷ 0x5c ∷ [] else c ∷ []

-- the text in a line is the JSON form of the value's text
abbrev pub LinesHaveTheText : Type 0
LinesHaveTheText = (bytes : List ℕ) → flat_map in_json (bytes_escaped bytes) ≡ text_of bytes

-- and that text spells the original bytes
abbrev pub TextsAreReadBack : Type 0
TextsAreReadBack =
    (bytes : List ℕ) → All (λ b. b < 256) bytes
    → bytes_spelled_by (bytes_escaped bytes) ≡ Some bytes

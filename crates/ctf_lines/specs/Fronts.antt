-- The next byte of a text that is decoded byte by byte.
use Rattle.std.specs.Prelude.{◌≡◌, ℕ, ◌<◌, ◌==◌, ◌&&◌, List, ◌∷◌, length, Option, Some, None, if◌then◌else◌}
use Rattle.std.specs.Option.{option_map}
use Rattle.ctf_protocol.specs.lines.Text.{byte_value, and_bytes, bytes_spelled_by}

-- an escaped byte at the start, and the text after it
abbrev pub escape : List ℕ → Option (ℕ × List ℕ)
escape (c ∷ x ∷ high ∷ low ∷ text) =
    if c == 0x5c && x == 0x78 then option_map (λ b. (b, text)) (byte_value high low) else None
escape text = None

-- the next byte and the text after it; none if the text spells no bytes
abbrev pub IsFront : List ℕ → Option (ℕ × List ℕ) → Type 0
IsFront text None = bytes_spelled_by text ≡ None
IsFront text (Some split) =
    (length split.1 < length text)
    × (bytes_spelled_by text ≡ and_bytes (Some split.0) (bytes_spelled_by split.1))

-- The length of the hex digits of bytes.
use Rattle.std.proofs.Common.{◌≡◌, ℕ, ◌+◌, List, [], ◌∷◌, length, refl, arith}
use Rattle.ctf_protocol.specs.lines.Text.{hex_of}

-- bytes have two digits each
pub hex_of_twice : (bytes : List ℕ) → length (hex_of bytes) ≡ length bytes + length bytes
hex_of_twice [] = refl
hex_of_twice (b ∷ bytes) = let later = hex_of_twice bytes in omega (arith, later)

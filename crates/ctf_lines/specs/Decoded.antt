-- Progress of decoding hexadecimal digits.
use Rattle.std.specs.Prelude.{◌≡◌, ℕ, ◌*◌, ◌++◌, List, take, drop, Result, Ok, Err}
use Rattle.hex.specs.Hex.{decode_pairs}
use Rattle.hex.specs.declared.error.FromHexError.{FromHexError}

-- `front` before the decoded rest
abbrev pub before : List ℕ → Result (List ℕ) FromHexError → Result (List ℕ) FromHexError
before front (Ok rest) = Ok (front ++ rest)
before front (Err e) = Err e

-- the first `at` bytes are decoded from the digits before them
abbrev pub IsDecodedTo : List ℕ → List ℕ → ℕ → Type 0
IsDecodedTo digits bytes at = decode_pairs 0 digits ≡ before (take at bytes) (decode_pairs (2 * at) (drop (2 * at) digits))

-- some digit is not hexadecimal
abbrev pub IsNoHex : List ℕ → Type 0
IsNoHex digits = (e : FromHexError) × (decode_pairs 0 digits ≡ Err e)

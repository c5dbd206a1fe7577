-- Texts without escapes, and runs of bytes in them. Only private clauses cite it.
use Rattle.std.specs.Prelude.{◌≡◌, ℕ, List, [], false, true, is_some}
use Rattle.json.specs.Align.{is_blank}
use Rattle.json.specs.Lex.{class, other}
use Rattle.json.specs.Token.{number}
use Rattle.json.specs.Word.{head, word}
use Rattle.serde_json.specs.Read.{number_of}
use Rattle.ctf_json.specs.Memory.{has_byte}

abbrev pub HasNoEscape : List ℕ → Type 0
HasNoEscape text = has_byte 92 text ≡ false

-- the text begins with a lexeme, or is empty
abbrev pub BeginsOrEnds : List ℕ → Type 0
BeginsOrEnds text = is_blank (class (head text)) ≡ true → text ≡ []

-- the text begins with this number, which is in range
abbrev pub IsNumber : List ℕ → List ℕ → Type 0
IsNumber text s =
    (class (head text) ≡ other) × (word text ≡ number s) × (is_some (number_of s) ≡ true)

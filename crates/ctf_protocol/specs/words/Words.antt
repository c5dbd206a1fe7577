-- The words of requests. Source: ours.
use Rattle.std.specs.Prelude.{ℕ, List, [], ◌∷◌, Bool, Option, None, Some, nat_eq, map, if◌then◌else◌}
use Rattle.std.specs.Cmp.Lexicographic.{pointwise}
use Rattle.ctf_protocol.specs.declared.words.TheConstants.{WORDS}
use Rattle.ctf_protocol.specs.declared.words.Word.{Word}

-- the texts are equal
abbrev pub is_text : List ℕ → List ℕ → Bool
is_text w v = pointwise nat_eq w v

-- the word that a text spells, by this table
abbrev pub word_named : List ℕ → List (Word × List ℕ) → Option Word
word_named w [] = None
word_named w (row ∷ rows) = if is_text w row.1 then Some row.0 else word_named w rows

-- every word with its spelling: the rows of `WORDS`, in order
unfoldable pub words : List (Word × List ℕ)
words = map (λ row. (row.1, row.0.now)) WORDS

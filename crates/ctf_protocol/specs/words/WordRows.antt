-- Worked rows of words and their spelling. The texts were written by hand, beside the table of the
-- code.
use Rattle.std.specs.Prelude.{◌≡◌, ℕ, List, [], ◌∷◌, Option, None, codes}
use Rattle.ctf_protocol.specs.words.Words.{word_named, words}
use Rattle.ctf_protocol.specs.declared.questions.HeldQuestion.TheVariants as held
use Rattle.ctf_protocol.specs.declared.questions.PlainQuestion.TheVariants as plain
use Rattle.ctf_protocol.specs.declared.words.Word.{Word}
use Rattle.ctf_protocol.specs.declared.words.Word.TheVariants as word

-- the word that a text spells
abbrev pub meant : List ℕ → Option Word
meant text = word_named text words

-- every word with its spelling
abbrev pub written_words : List (Word × List ℕ)
written_words =
    (word.Part, codes "part")
    ∷ (word.Check, codes "check")
    ∷ (word.Open, codes "open")
    ∷ (word.Clear, codes "clear")
    ∷ (word.Reset, codes "reset")
    ∷ (word.Close, codes "close")
    ∷ (word.Import, codes "import")
    ∷ (word.Publish, codes "publish")
    ∷ (word.Withdraw, codes "withdraw")
    ∷ (word.Take, codes "take")
    ∷ (word.Create, codes "create")
    ∷ (word.Add, codes "add")
    ∷ (word.Update, codes "update")
    ∷ (word.Discard, codes "discard")
    ∷ (word.Plain plain.Kind, codes "kind")
    ∷ (word.Plain plain.Record, codes "record")
    ∷ (word.Members, codes "members")
    ∷ (word.Enumerators, codes "enumerators")
    ∷ (word.Plain plain.Args, codes "args")
    ∷ (word.Plain plain.Array, codes "array")
    ∷ (word.Plain plain.Encoding, codes "encoding")
    ∷ (word.Plain plain.Reference, codes "reference")
    ∷ (word.Plain plain.Resolve, codes "resolve")
    ∷ (word.Plain plain.Size, codes "size")
    ∷ (word.Plain plain.Align, codes "align")
    ∷ (word.Plain plain.Name, codes "name")
    ∷ (word.Plain plain.Pointer, codes "pointer")
    ∷ (word.Find, codes "find")
    ∷ (word.Path, codes "path")
    ∷ (word.Show, codes "show")
    ∷ (word.Symbol, codes "symbol")
    ∷ (word.Object, codes "object")
    ∷ (word.Function, codes "function")
    ∷ (word.Labels, codes "labels")
    ∷ (word.Label, codes "label")
    ∷ (word.Held held.Info, codes "info")
    ∷ (word.Held held.Model, codes "model")
    ∷ (word.Bytes, codes "bytes") ∷ []

pub record WordsAreWritten : Type 0 where
  pub table : words ≡ written_words
  -- only the exact lower-case spelling counts
  pub upper_case : meant (codes "Kind") ≡ None
  pub cut : meant (codes "kin") ≡ None
  pub longer : meant (codes "kinds") ≡ None
  pub no_text : meant (codes "") ≡ None

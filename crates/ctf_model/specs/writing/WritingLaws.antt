-- Laws of written bytes. Each is the contract of a function of src/laws.rt.
use Rattle.std.specs.Prelude.{◌≡◌, ◌<◌, ◌≤◌, ℕ, ◌^◌, true, false, is_some, List, length, None, Some, Ok}
use Rattle.std.specs.List.{AllByRecursion, list_any}
use Rattle.std.specs.Str.{bytes_eq}
use Rattle.ctf_model.specs.format.Dictionary.{Dictionary, Denotes}
use Rattle.ctf_model.specs.drafts.DraftLaws.{IsSound}
use Rattle.ctf_model.specs.drafts.Drafts.{Draft, content}
use Rattle.ctf_model.specs.rules.Faults.{first_fault}
use Rattle.ctf_model.specs.drafts.Fitting.{Fits, IsName}
use Rattle.ctf_model.specs.format.Header.{fields, is_child}
use Rattle.ctf_model.specs.format.Name.{Tables, name}
use Rattle.ctf_model.specs.rules.References.{references}
use Rattle.ctf_model.specs.spaces.Imports.{import_fault, of_one_model}
use Rattle.ctf_model.specs.format.SpelledTypes.{Spells}
use Rattle.ctf_model.specs.format.Term.{Term}
use Rattle.ctf_model.specs.writing.Written.{bytes_of, lists_of, most_written, unwritten, written}
use Rattle.ctf_model.specs.writing.WrittenNames.{is_empty, names_of, name_reference, string_bytes}
use Rattle.ctf_model.specs.writing.WrittenRecords.{record_bytes}

-- ---- names and records

-- a string section with exactly these names, and no second table
abbrev pub table_of : List (List ℕ) → Tables
table_of names = record { internal = string_bytes names; elf = None }

-- a name is empty or one of these
abbrev pub IsKept : List (List ℕ) → List ℕ → Type 0
IsKept names text = is_empty text ≡ false → list_any (bytes_eq text) names ≡ true

-- the reference to a name denotes it
pub record IsFound (names : List (List ℕ)) (text : List ℕ) : Type 0 where
  pub low : name_reference names text < 2 ^ 31
  pub found : name (table_of names) (name_reference names text) ≡ Some text

-- every name that is empty or in the table can be found by its reference, unless the strings are
-- too long
abbrev pub NamesAreFoundAgain : Type 0
NamesAreFoundAgain =
    (names : List (List ℕ)) (text : List ℕ) → AllByRecursion IsName names → IsKept names text
    → length (string_bytes names) < 2 ^ 31 → IsFound names text

-- no type number that a type refers to equals the mark of the long form
abbrev pub NamesShort : Term → Type 0
NamesShort x = AllByRecursion (λ n. n < 0xffff) (references x.body)

-- the record of a type that fits, and whose names are found, spells that type
abbrev pub RecordsSpell : Type 0
RecordsSpell =
    (names : List (List ℕ)) (x : Term) → Fits x → NamesShort x
    → AllByRecursion (IsFound names) (names_of x) → Spells (table_of names) (record_bytes names x) x

-- ---- drafts

-- the written bytes of a sound draft denote its types and labels, its parent's name and label, and
-- no symbols
abbrev pub WrittenDenotes : Type 0
WrittenDenotes =
    (d : Draft) (bytes : List ℕ) → IsSound d → written (content d) ≡ Ok bytes
    → Denotes (lists_of bytes) (content d)

-- the bytes are a child's exactly if the draft has a parent
abbrev pub WrittenIsChild : Type 0
WrittenIsChild =
    (d : Draft) (bytes : List ℕ) → IsSound d → written (content d) ≡ Ok bytes
    → is_child (fields bytes) ≡ is_some d.parent

-- the dictionary that they denote can be imported over that parent
abbrev pub WrittenIsImported : Type 0
WrittenIsImported =
    (d : Draft) (parent : Dictionary) (bytes : List ℕ) (child : Dictionary) → IsSound d
    → d.parent ≡ Some parent → written (content d) ≡ Ok bytes → Denotes (lists_of bytes) child
    → import_fault (of_one_model d.model child parent) ≡ None

-- bytes within the size limit have exactly the fault for which the draft is not written
abbrev pub BytesAreJudgedAlike : Type 0
BytesAreJudgedAlike =
    (d : Draft) → IsSound d → length (bytes_of (content d)) ≤ most_written
    → first_fault (lists_of (bytes_of (content d))) ≡ unwritten (content d)

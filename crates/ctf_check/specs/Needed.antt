-- The greatest number of a parent's type that records and symbols refer to, read from the bytes.
use Rattle.std.specs.Prelude.{ℕ, max, List, [], ◌∷◌, Result, Ok, Err}
use Rattle.ctf_model.specs.symbols.Entries.{Entry, types_named}
use Rattle.ctf_model.specs.rules.Needs.{greatest_in_parent}
use Rattle.ctf_model.specs.format.Section.{Piece}
use Rattle.ctf_check.specs.Named.{named_types}
use Rattle.ctf_model.specs.declared.faults.Fault.{Fault}

unfoldable pub record_needs : List ℕ → ℕ
record_needs b = greatest_in_parent (named_types b)

unfoldable pub records_need : List (Result Piece Fault) → ℕ
records_need [] = 0
records_need (Ok p ∷ rest) = max (record_needs p.bytes) (records_need rest)
records_need (Err f ∷ rest) = 0

-- the greatest that symbols' entries refer to
unfoldable pub entries_need : List Entry → ℕ
entries_need [] = 0
entries_need (e ∷ es) = max (greatest_in_parent (types_named e.info)) (entries_need es)

-- What a `Checked` shows.
use Rattle.std.specs.Prelude.{◌≡◌, ℕ, ◌-◌, ◌==◌, Option, Some, None, slice_get, if◌then◌else◌}
use Rattle.ctf_model.specs.format.Dictionary.{Dictionary, said_by}
use Rattle.ctf_model.specs.rules.Faults.{types}
use Rattle.ctf_model.specs.format.Lists.{Lists, tables}
use Rattle.ctf_model.specs.format.Name.{Tables}
use Rattle.ctf_model.specs.format.Term.{Term}
use Rattle.ctf_records.specs.Pieces.{piece_numbered}
use Rattle.ctf_records.specs.RecordView.{piece}
use Rattle.ctf_check.specs.declared.checked.Checked.{Checked}
use Rattle.ctf_records.specs.declared.record.Record.{Record}

-- the lists that it was made from
abbrev pub lists_of : Checked → Lists
lists_of d = d.judged.now.kept.lists

-- its string tables
abbrev pub tables_of : Checked → Tables
tables_of d = tables (lists_of d)

-- the dictionary that the lists encode
abbrev pub dictionary_of : Checked → Dictionary
dictionary_of d = said_by (lists_of d)

-- the own type number `n`; the count starts at 1
abbrev pub type_at : Dictionary → ℕ → Option Term
type_at d n = if n == 0 then None else slice_get d.terms (n - 1)

-- the record is the dictionary's own record with its number
abbrev pub IsOwn : Checked → Record → Type 0
IsOwn d r = piece_numbered (types (lists_of d).ctf) r.index ≡ Some (piece r)

-- What a `Typed` shows.
use Rattle.std.specs.Prelude.{Option}
use Rattle.ctf_model.specs.format.Spelling.{term_of}
use Rattle.ctf_model.specs.format.Term.{Term}
use Rattle.ctf_check.specs.CheckedView.{tables_of}
use Rattle.ctf_check.specs.declared.checked.Checked.{Checked}
use Rattle.ctf_check.specs.declared.typed.Typed.{Typed}
use Rattle.ctf_records.specs.RecordView.{bytes_of}
use Rattle.ctf_records.specs.declared.record.Record.{Record}

-- the dictionary that contains it
abbrev pub dictionary_in : Typed → Checked
dictionary_in x = x.dictionary

-- its record
abbrev pub record_in : Typed → Record
record_in x = x.source

-- the type that its record spells; there always is one
abbrev pub term_in : Typed → Option Term
term_in x = term_of (tables_of x.dictionary) (bytes_of x.source)

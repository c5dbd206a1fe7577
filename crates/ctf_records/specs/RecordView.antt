-- What a lent record shows. Source: ours; Record.antt of ctf_model says what its bytes mean.
use Rattle.std.specs.Prelude.{ℕ, List, take, drop, Option, Result, Ok, Err}
use Rattle.std.specs.Option.{option_map}
use Rattle.ctf_model.specs.format.Section.{Piece, front_len}
use Rattle.ctf_model.specs.format.Term as term
use Rattle.ctf_model.specs.declared.faults.Fault.{Fault}
use Rattle.ctf_records.specs.declared.record.Record.{Record}
use Rattle.ctf_records.specs.declared.tag.Tag.{Tag}
use Rattle.ctf_records.specs.declared.tag.Tag.TheVariants as lent

-- its number in its section, from 1
abbrev pub index_of : Record → ℕ
index_of r = r.index

-- its offset in the section
abbrev pub at_of : Record → ℕ
at_of r = r.at

-- all its bytes, the head first
abbrev pub bytes_of : Record → List ℕ
bytes_of r = r.bytes.now

-- its number, offset and bytes
abbrev pub piece : Record → Piece
piece r = record { index = r.index; at = r.at; bytes = r.bytes.now }

-- a record, or the fault that ends reading
abbrev pub result_piece : Result Record Fault → Result Piece Fault
result_piece (Ok r) = Ok (piece r)
result_piece (Err f) = Err f

-- the whole record at offset `at` of a section, if there is one, with this number
abbrev pub piece_at : List ℕ → ℕ → ℕ → Option Piece
piece_at types at index =
    option_map (λ n. record { index = index; at = at; bytes = take n (drop at types) })
    (front_len (drop at types))

-- the kind that a forward declares
abbrev pub tag_of : Tag → term.Tag
tag_of lent.Struct = term.struct_tag
tag_of lent.Union = term.union_tag
tag_of lent.Enum = term.enum_tag

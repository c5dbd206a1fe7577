-- The bytes that a dictionary is written as. Source: ours, over the layout of ctf(5). Flags are 0,
-- object and function sections are empty, and nothing follows the strings.
use Rattle.std.specs.Prelude.{ℕ, ◌+◌, List, ◌∷◌, ◌++◌, length, nat_lt, if◌then◌else◌, Option, None, Some, Result, Ok, Err}
use Rattle.std.specs.List.{flat_map}
use Rattle.ctf_model.specs.rules.Chains.{by_value, declarator, edges}
use Rattle.ctf_model.specs.format.Dictionary.{Dictionary, Label}
use Rattle.ctf_model.specs.rules.Faults.{first_deep, or_later}
use Rattle.ctf_model.specs.format.Header.{Fields}
use Rattle.ctf_model.specs.format.Lists.{Lists}
use Rattle.ctf_model.specs.format.Term.{Body}
use Rattle.ctf_model.specs.writing.WrittenNames.{name_reference, string_bytes, strings_of}
use Rattle.ctf_model.specs.writing.WrittenRecords.{record_bytes, u32}
use Rattle.ctf_model.specs.declared.faults.Fault.{Fault}
use Rattle.ctf_model.specs.declared.faults.TheConstants.Fault.{VALUE_DEEP, DECL_DEEP, DICT_TOO_BIG}

-- ---- the parts

-- a name, and the last type that the label covers
abbrev pub label_bytes : List (List ℕ) → Label → List ℕ
label_bytes names label = u32 (name_reference names label.name) ++ u32 label.last

unfoldable pub labels_written : Dictionary → List ℕ
labels_written d = flat_map (label_bytes (strings_of d)) d.labels

unfoldable pub records_written : Dictionary → List ℕ
records_written d = flat_map (record_bytes (strings_of d)) d.terms

abbrev pub strings_written : Dictionary → List ℕ
strings_written d = string_bytes (strings_of d)

-- CTF_MAGIC, CTF_VERSION_2, no flags, and the fields
abbrev pub header_bytes : Fields → List ℕ
header_bytes h =
    0xf1 ∷ 0xcf ∷ 2 ∷ 0
    ∷ (u32 h.parlabel ++ (u32 h.parname ++ (u32 h.lbloff ++ (u32 h.objtoff ++ (u32 h.funcoff
    ++ (u32 h.typeoff ++ (u32 h.stroff ++ u32 h.strlen)))))))

-- the header for these references to the parent's label and name, with labels, records and strings
-- of these lengths
abbrev pub fields_over : ℕ → ℕ → ℕ → ℕ → ℕ → Fields
fields_over parlabel parname labels records strings = record {
  parlabel = parlabel;
  parname = parname;
  lbloff = 0;
  objtoff = labels;
  funcoff = labels;
  typeoff = labels;
  stroff = labels + records;
  strlen = strings;
}

abbrev pub fields_written : Dictionary → Fields
fields_written d =
    fields_over
    (name_reference (strings_of d) d.parlabel)
    (name_reference (strings_of d) d.parname)
    (length (labels_written d))
    (length (records_written d))
    (length (strings_written d))

-- ---- the whole

-- header, labels, records, strings
unfoldable pub bytes_of : Dictionary → List ℕ
bytes_of d =
    header_bytes (fields_written d) ++ (labels_written d ++ (records_written d
    ++ strings_written d))

-- the most bytes that are written
abbrev pub most_written : ℕ
most_written = 67108864

abbrev pub dictionary_too_big : Dictionary → Option ℕ
dictionary_too_big d = if nat_lt most_written (length (bytes_of d)) then Some 0 else None

-- the first type with too long a chain of such steps
abbrev pub deep_by : (Body → List ℕ) → Dictionary → Option ℕ
deep_by steps d = first_deep (edges steps d.child d.terms) 0 (length d.terms)

-- the reason not to write a dictionary: a chain that is too long, or too many bytes
unfoldable pub unwritten : Dictionary → Option Fault
unwritten d =
    or_later VALUE_DEEP (deep_by by_value d)
    (or_later DECL_DEEP (deep_by declarator d) (or_later DICT_TOO_BIG (dictionary_too_big d) None))

-- the bytes, or the reason against them
abbrev pub bytes_unless : Option Fault → List ℕ → Result (List ℕ) Fault
bytes_unless None bytes = Ok bytes
bytes_unless (Some f) bytes = Err f

unfoldable pub written : Dictionary → Result (List ℕ) Fault
written d = bytes_unless (unwritten d) (bytes_of d)

-- these bytes as a dictionary without a symbol table
abbrev pub lists_of : List ℕ → Lists
lists_of bytes = record { ctf = bytes; sym = None; strs = None }

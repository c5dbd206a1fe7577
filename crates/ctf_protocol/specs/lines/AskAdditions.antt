-- The additions to a draft that a line can contain: for each kind of type, and for members,
-- enumerators and labels, the fields with their ranges, and the addition made of them. Source:
-- ours. Needs LineFields.
use Rattle.std.specs.Prelude.{ℕ, ℤ, pos, negsuc, Bool, true, List, is_none, Option, None, Some, nat_le, codes, if◌then◌else◌}
use Rattle.serde_json.specs.Data.{Data, Items}
use Rattle.serde_json.specs.Find.{get, as_array, as_bool, as_i64, as_number, as_u64}
use Rattle.ctf_protocol.specs.words.Addables.{addable_named}
use Rattle.ctf_protocol.specs.declared.addables.Addable.{Addable}
use Rattle.ctf_protocol.specs.declared.addables.Addable.TheVariants as adds
use Rattle.ctf_protocol.specs.declared.additions.Addition.{Addition}
use Rattle.ctf_protocol.specs.declared.additions.Addition.TheVariants as add
use Rattle.ctf_protocol.specs.declared.additions.Declared.{Declared}
use Rattle.ctf_protocol.specs.declared.additions.Declared.TheVariants as declared
use Rattle.ctf_protocol.specs.declared.additions.NewArray.{NewArray}
use Rattle.ctf_protocol.specs.declared.additions.NewKind.{NewKind}
use Rattle.ctf_protocol.specs.declared.additions.NewKind.TheVariants as kind
use Rattle.ctf_protocol.specs.declared.additions.NewScalar.{NewScalar}
use Rattle.ctf_model.specs.declared.numbers.TypeNum.{TypeNum}
use Rattle.ctf_protocol.specs.words.Words.{is_text}
use Rattle.ctf_protocol.specs.lines.LineFields.{◌▹◌, ◌▸◌, in_range, number_in, text_in, type_asked, type_under, each_read, name_or_empty}

-- ---- new types

-- a size in bytes, or this default
abbrev pub size_or : ℕ → Data → Option ℕ
size_or size line =
    if is_none (get (codes "size") line) then Some size
    else number_in 0 18446744073709551615 (codes "size") line

abbrev pub scalar_asked : Data → Option NewScalar
scalar_asked line =
    number_in 0 18446744073709551615 (codes "size") line ▹ λ size.
    number_in 0 255 (codes "encoding") line ▹ λ encoding.
    number_in 0 255 (codes "offset") line ▹ λ offset.
    number_in 0 65535 (codes "bits") line ▸ λ bits.
    record { size = size; encoding = encoding; offset = offset; bits = bits }

abbrev pub new_array_asked : Data → Option NewArray
new_array_asked line =
    type_under (codes "contents") line ▹ λ contents.
    type_under (codes "index") line ▹ λ index.
    number_in 0 4294967295 (codes "count") line ▸ λ count.
    record { contents = contents; index = index; count = count }

-- the type number that a value is, if it is in range
abbrev pub type_listed : Data → Option TypeNum
type_listed value =
    ((as_number value ▹ as_u64) ▹ in_range 0 65535) ▸ λ t.
    record { 0 = t }

abbrev pub types_listed : Items → Option (List TypeNum)
types_listed values = each_read type_listed values

abbrev pub new_function_asked : Data → Option NewKind
new_function_asked line =
    type_under (codes "type") line ▹ λ returned.
    ((get (codes "args") line ▹ as_array) ▹ types_listed) ▸ λ args.
    kind.Function returned args

-- what a forward declares
abbrev pub declared_named : List ℕ → Option Declared
declared_named w =
    if is_text w (codes "struct") then Some declared.Struct
    else if is_text w (codes "union") then Some declared.Union
    else if is_text w (codes "enum") then Some declared.Enum
    else None

-- whether look-ups by name see a new type; the default is yes
abbrev pub root_asked : Data → Option Bool
root_asked line =
    if is_none (get (codes "root") line) then Some true
    else get (codes "root") line ▹ as_bool

abbrev pub new_type_asked : Option NewKind → Data → Option Addition
new_type_asked kind line =
    kind ▹ λ x.
    name_or_empty (codes "name") line ▹ λ name.
    root_asked line ▸ λ root.
    add.Type name root x

-- ---- members, enumerators and labels

-- an offset in bits, if one is stated
abbrev pub offset_asked : Data → Option (Option ℕ)
offset_asked line =
    if is_none (get (codes "offset") line) then Some None
    else number_in 0 18446744073709551615 (codes "offset") line ▸ λ n. Some n

abbrev pub new_member_asked : Data → Option Addition
new_member_asked line =
    type_asked line ▹ λ t.
    name_or_empty (codes "name") line ▹ λ name.
    type_under (codes "type") line ▹ λ tnum.
    offset_asked line ▸ λ offset.
    add.Member t name tnum offset

-- `z`, if it fits a signed 32-bit number
abbrev pub within_signed : ℤ → Option ℤ
within_signed (pos n) = if nat_le n 2147483647 then Some (pos n) else None
within_signed (negsuc n) = if nat_le n 2147483647 then Some (negsuc n) else None

abbrev pub value_asked_for : Data → Option ℤ
value_asked_for line =
    ((get (codes "value") line ▹ as_number) ▹ as_i64) ▹ within_signed

abbrev pub new_enumerator_asked : Data → Option Addition
new_enumerator_asked line =
    type_asked line ▹ λ t.
    name_or_empty (codes "name") line ▹ λ name.
    value_asked_for line ▸ λ value.
    add.Enumerator t name value

abbrev pub new_label_asked : Data → Option Addition
new_label_asked line =
    name_or_empty (codes "name") line ▹ λ name.
    number_in 0 4294967295 (codes "last") line ▸ λ last.
    add.Label name last

-- ---- additions

-- the kind of a new type, with its fields
abbrev pub kind_with : Data → Addable → Option NewKind
kind_with line adds.Unknown = Some kind.Unknown
kind_with line adds.Integer = scalar_asked line ▸ kind.Integer
kind_with line adds.Float = scalar_asked line ▸ kind.Float
kind_with line adds.Pointer = type_under (codes "type") line ▸ kind.Pointer
kind_with line adds.Array = new_array_asked line ▸ kind.Array
kind_with line adds.Function = new_function_asked line
kind_with line adds.Struct = size_or 0 line ▸ kind.Struct
kind_with line adds.Union = size_or 0 line ▸ kind.Union
kind_with line adds.Enum = size_or 4 line ▸ kind.Enum
kind_with line adds.Forward = (text_in (codes "tag") line ▹ declared_named) ▸ kind.Forward
kind_with line adds.Typedef = type_under (codes "type") line ▸ kind.Typedef
kind_with line adds.Volatile = type_under (codes "type") line ▸ kind.Volatile
kind_with line adds.Const = type_under (codes "type") line ▸ kind.Const
kind_with line adds.Restrict = type_under (codes "type") line ▸ kind.Restrict
kind_with line _ = None

-- the addition that a word and its fields state
abbrev pub addition_with : Data → Addable → Option Addition
addition_with line adds.Member = new_member_asked line
addition_with line adds.Enumerator = new_enumerator_asked line
addition_with line adds.Label = new_label_asked line
addition_with line what = new_type_asked (kind_with line what) line

abbrev pub addition_asked : Data → Option Addition
addition_asked line =
    (text_in (codes "what") line ▹ addable_named) ▹ addition_with line

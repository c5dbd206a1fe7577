-- The record that a type is written as. Source: ctf(5), "The Type Section"; CTF_TYPE_INFO,
-- CTF_INT_DATA, ctf_stype_t, ctf_type_t, ctf_array_t, ctf_member_t, ctf_lmember_t, ctf_enum_t of
-- sys/ctf.h. That a record is short whenever it can be, that an array states no size, and the
-- content of padding, is ours.
use Rattle.std.specs.Prelude.{ℕ, ◌+◌, ◌*◌, ◌/◌, ◌%◌, ◌^◌, Bool, List, [], length, ◌++◌, nat_lt, if◌then◌else◌}
use Rattle.std.specs.Int.{cast_unsigned, to_le_bytes, w16, w32}
use Rattle.std.specs.List.{flat_map}
use Rattle.ctf_model.specs.format.Shown.{kind_of, list_length, shown}
use Rattle.ctf_model.specs.format.Term.{Body, Elements, Enumerator, Member, Scalar, Tag, Term}
use Rattle.ctf_model.specs.format.Term as term
use Rattle.ctf_model.specs.writing.WrittenNames.{name_reference}
use Rattle.ctf_model.specs.declared.kinds.Kind.{Kind}
use Rattle.ctf_model.specs.declared.kinds.Kind.TheVariants.{KUnknown, KInteger, KFloat, KPointer, KArray, KFunction, KStruct, KUnion, KEnum, KForward, KTypedef, KVolatile, KConst, KRestrict}

-- ---- numbers, low byte first

abbrev pub u16 : ℕ → List ℕ
u16 n = to_le_bytes w16 n

abbrev pub u32 : ℕ → List ℕ
u32 n = to_le_bytes w32 n

-- in two halves, high half first
abbrev pub halves : ℕ → List ℕ
halves n = u32 (n / 2 ^ 32) ++ u32 (n % 2 ^ 32)

-- ---- the head

-- CTF_K_UNKNOWN to CTF_K_RESTRICT
abbrev pub number_of_kind : Kind → ℕ
number_of_kind KUnknown = 0
number_of_kind KInteger = 1
number_of_kind KFloat = 2
number_of_kind KPointer = 3
number_of_kind KArray = 4
number_of_kind KFunction = 5
number_of_kind KStruct = 6
number_of_kind KUnion = 7
number_of_kind KEnum = 8
number_of_kind KForward = 9
number_of_kind KTypedef = 10
number_of_kind KVolatile = 11
number_of_kind KConst = 12
number_of_kind KRestrict = 13

abbrev pub root_bit : Bool → ℕ
root_bit root = if root then 1 else 0

-- the number of members, enumerators or arguments
abbrev pub list_len : Body → ℕ
list_len x = list_length (shown x)

-- kind, root flag and list length, packed
abbrev pub info_of : Term → ℕ
info_of x = number_of_kind (kind_of x.body) * 2 ^ 11 + root_bit x.root * 2 ^ 10 + list_len x.body

-- a forward's field is the number of the kind that it declares
abbrev pub tag_number : Tag → ℕ
tag_number term.struct_tag = number_of_kind KStruct
tag_number term.union_tag = number_of_kind KUnion
tag_number term.enum_tag = number_of_kind KEnum

-- the field: a size, a type, or the declared kind
abbrev pub field_of : Body → ℕ
field_of term.unknown = 0
field_of (term.integer scalar) = scalar.size
field_of (term.float scalar) = scalar.size
field_of (term.pointer t) = t
field_of (term.array elements) = 0
field_of (term.function ret args) = ret
field_of (term.struct size members) = size
field_of (term.union size members) = size
field_of (term.enum size enumerators) = size
field_of (term.forward tag) = tag_number tag
field_of (term.typedef t) = t
field_of (term.volatile t) = t
field_of (term.const t) = t
field_of (term.restrict t) = t

-- the field, or else the mark of the long form and the number in halves
abbrev pub field_bytes : ℕ → List ℕ
field_bytes n = if nat_lt n 0xffff then u16 n else u16 0xffff ++ halves n

-- ---- after the head

abbrev pub scalar_bytes : Scalar → List ℕ
scalar_bytes s = u32 (s.encoding * 2 ^ 24 + s.offset * 2 ^ 16 + s.bits)

abbrev pub element_bytes : Elements → List ℕ
element_bytes e = u16 e.contents ++ u16 e.index ++ u32 e.count

-- arguments are padded to an even number
abbrev pub argument_bytes : List ℕ → List ℕ
argument_bytes args = flat_map u16 args ++ (if nat_lt 0 (length args % 2) then u16 0 else [])

-- a member's form depends on the size of its struct or union
abbrev pub member_bytes : List (List ℕ) → ℕ → Member → List ℕ
member_bytes names size m =
    if nat_lt size 8192
    then u32 (name_reference names m.name) ++ u16 m.tnum ++ u16 m.offset
    else u32 (name_reference names m.name) ++ u16 m.tnum ++ u16 0 ++ halves m.offset

-- the name, and the value in two's complement
abbrev pub enumerator_bytes : List (List ℕ) → Enumerator → List ℕ
enumerator_bytes names e = u32 (name_reference names e.name) ++ u32 (cast_unsigned w32 e.value)

abbrev pub variant_bytes : List (List ℕ) → Body → List ℕ
variant_bytes names (term.integer scalar) = scalar_bytes scalar
variant_bytes names (term.float scalar) = scalar_bytes scalar
variant_bytes names (term.array elements) = element_bytes elements
variant_bytes names (term.function ret args) = argument_bytes args
variant_bytes names (term.struct size members) = flat_map (member_bytes names size) members
variant_bytes names (term.union size members) = flat_map (member_bytes names size) members
variant_bytes names (term.enum size enumerators) = flat_map (enumerator_bytes names) enumerators
variant_bytes names _ = []

-- ---- the record

-- name, info, field, and the kind's own data
unfoldable pub record_bytes : List (List ℕ) → Term → List ℕ
record_bytes names x =
    u32 (name_reference names x.name) ++ (u16 (info_of x) ++ (field_bytes (field_of x.body)
    ++ variant_bytes names x.body))

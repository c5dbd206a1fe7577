-- What the head of a type's record holds, and what follows it. Source: ctf(5), "The Type Section":
-- whether ctt_size or ctt_type is meant, the variable-length data of each kind, and the last
-- argument 0 of a variadic function.
use Rattle.std.specs.Prelude.{ℕ, ◌-◌, ◌&&◌, ◌==◌, nat_lt, Bool, List, length, take, slice_index, Option, Some, None, if◌then◌else◌}
use Rattle.ctf_model.specs.format.Term.{Body, Enumerator, Member, Scalar, Elements, Tag, Term}
use Rattle.ctf_model.specs.format.Term as term
use Rattle.ctf_model.specs.declared.kinds.Kind.{Kind}
use Rattle.ctf_model.specs.declared.kinds.Kind.TheVariants.{KUnknown, KInteger, KFloat, KPointer, KArray, KFunction, KStruct, KUnion, KEnum, KForward, KTypedef, KVolatile, KConst, KRestrict}

-- ---- in the head

abbrev pub kind_of : Body → Kind
kind_of term.unknown = KUnknown
kind_of (term.integer scalar) = KInteger
kind_of (term.float scalar) = KFloat
kind_of (term.pointer t) = KPointer
kind_of (term.array elements) = KArray
kind_of (term.function ret args) = KFunction
kind_of (term.struct size members) = KStruct
kind_of (term.union size members) = KUnion
kind_of (term.enum size enumerators) = KEnum
kind_of (term.forward tag) = KForward
kind_of (term.typedef t) = KTypedef
kind_of (term.volatile t) = KVolatile
kind_of (term.const t) = KConst
kind_of (term.restrict t) = KRestrict

-- the stated size in bytes
abbrev pub size_of : Body → Option ℕ
size_of (term.integer scalar) = Some scalar.size
size_of (term.float scalar) = Some scalar.size
size_of (term.array elements) = Some elements.size
size_of (term.struct size members) = Some size
size_of (term.union size members) = Some size
size_of (term.enum size enumerators) = Some size
size_of _ = None

-- the type that is pointed to, returned, renamed or qualified
abbrev pub reference_of : Body → Option ℕ
reference_of (term.pointer t) = Some t
reference_of (term.function ret args) = Some ret
reference_of (term.typedef t) = Some t
reference_of (term.volatile t) = Some t
reference_of (term.const t) = Some t
reference_of (term.restrict t) = Some t
reference_of _ = None

-- the kind that a forward declares
abbrev pub declared_by : Body → Option Tag
declared_by (term.forward tag) = Some tag
declared_by _ = None

-- ---- after the head

-- an array without its size
pub record ArrayParts : Type 0 where
  pub contents : ℕ
  pub index : ℕ
  pub count : ℕ

-- an integer or a float without its size
pub record EncodingParts : Type 0 where
  pub encoding : ℕ
  pub offset : ℕ
  pub bits : ℕ

-- what follows the head, by kind
pub data Shown : Type 0 where
  members : List Member → Shown
  enumerators : List Enumerator → Shown
  arguments : List ℕ → Shown
  array : ArrayParts → Shown
  encoding : EncodingParts → Shown
  tag : Tag → Shown
  nothing : Shown

-- the array's parts
abbrev pub array_parts : Elements → ArrayParts
array_parts e = record { contents = e.contents; index = e.index; count = e.count }

-- the integer's or float's parts
abbrev pub encoding_parts : Scalar → EncodingParts
encoding_parts s = record { encoding = s.encoding; offset = s.offset; bits = s.bits }

-- what follows the head of a type's record; size and reference are in the head
abbrev pub shown : Body → Shown
shown (term.struct size items) = members items
shown (term.union size items) = members items
shown (term.enum size items) = enumerators items
shown (term.function returned items) = arguments items
shown (term.array e) = array (array_parts e)
shown (term.integer s) = encoding (encoding_parts s)
shown (term.float s) = encoding (encoding_parts s)
shown (term.forward t) = tag t
shown _ = nothing

-- ---- each part, if present

abbrev pub members_in : Shown → Option (List Member)
members_in (members items) = Some items
members_in _ = None

abbrev pub enumerators_in : Shown → Option (List Enumerator)
enumerators_in (enumerators items) = Some items
enumerators_in _ = None

abbrev pub arguments_in : Shown → Option (List ℕ)
arguments_in (arguments items) = Some items
arguments_in _ = None

abbrev pub array_in : Shown → Option ArrayParts
array_in (array parts) = Some parts
array_in _ = None

abbrev pub encoding_in : Shown → Option EncodingParts
encoding_in (encoding parts) = Some parts
encoding_in _ = None

-- the length of the type's list; 0 if it has none
abbrev pub list_length : Shown → ℕ
list_length (members items) = length items
list_length (enumerators items) = length items
list_length (arguments items) = length items
list_length _ = 0

-- ---- arguments of a function

-- a last argument 0 marks a variadic function and is no argument itself
abbrev pub is_variadic : List ℕ → Bool
is_variadic args = nat_lt 0 (length args) && slice_index args (length args - 1) == 0

abbrev pub named_arguments : List ℕ → List ℕ
named_arguments args = if is_variadic args then take (length args - 1) args else args

-- ---- everything

-- a type without its name, looking at no other type
pub record Shape : Type 0 where
  pub kind : Kind
  pub size : Option ℕ
  pub reference : Option ℕ
  pub declares : Option Tag
  pub behind : Shown

abbrev pub shape : Body → Shape
shape body =
    record {
      kind = kind_of body;
      size = size_of body;
      reference = reference_of body;
      declares = declared_by body;
      behind = shown body;
    }

-- a type's own fields
pub record Facts : Type 0 where
  pub name : List ℕ
  pub root : Bool
  pub shape : Shape

abbrev pub facts : Term → Facts
facts x = record { name = x.name; root = x.root; shape = shape x.body }

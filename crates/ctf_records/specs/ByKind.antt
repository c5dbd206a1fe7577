-- Which fields each kind has. Source: ctf(5), "The Type Section": whether ctt_size or ctt_type is
-- meant, and what follows the head, depends on the kind.
use Rattle.std.specs.Prelude.{ℕ, List, Option, Some, None}
use Rattle.std.specs.Option.{option_and_then}
use Rattle.ctf_model.specs.format.Record.{kind, field, size, vlen, variant_len}
use Rattle.ctf_model.specs.format.Spelling.{tag}
use Rattle.ctf_model.specs.format.Term.{Tag}
use Rattle.ctf_model.specs.declared.kinds.Kind.{Kind}
use Rattle.ctf_model.specs.declared.kinds.Kind.TheVariants.{KInteger, KFloat, KPointer, KArray, KFunction, KStruct, KUnion, KEnum, KForward, KTypedef, KVolatile, KConst, KRestrict}

-- ---- by kind

-- the stated size in bytes
abbrev pub size_of_kind : Kind → List ℕ → Option ℕ
size_of_kind KInteger b = Some (size b)
size_of_kind KFloat b = Some (size b)
size_of_kind KArray b = Some (size b)
size_of_kind KStruct b = Some (size b)
size_of_kind KUnion b = Some (size b)
size_of_kind KEnum b = Some (size b)
size_of_kind _ b = None

-- the type that is pointed to, returned, renamed or qualified
abbrev pub reference_of_kind : Kind → List ℕ → Option ℕ
reference_of_kind KPointer b = Some (field b)
reference_of_kind KFunction b = Some (field b)
reference_of_kind KTypedef b = Some (field b)
reference_of_kind KVolatile b = Some (field b)
reference_of_kind KConst b = Some (field b)
reference_of_kind KRestrict b = Some (field b)
reference_of_kind _ b = None

-- the kind that a forward declares
abbrev pub declared_of_kind : Kind → List ℕ → Option Tag
declared_of_kind KForward b = Some (tag (field b))
declared_of_kind _ b = None

-- the length of the list of arguments, members or enumerators
abbrev pub listed_of_kind : Kind → List ℕ → ℕ
listed_of_kind KFunction b = vlen b
listed_of_kind KStruct b = vlen b
listed_of_kind KUnion b = vlen b
listed_of_kind KEnum b = vlen b
listed_of_kind _ b = 0

-- ---- the record at the start of these bytes; none or 0 for an unknown kind

-- a function of the kind, or 0 if the kind is unknown
abbrev pub at_kind : (Kind → ℕ) → Option Kind → ℕ
at_kind f None = 0
at_kind f (Some k) = f k

-- its size, if its kind states one
abbrev pub size_in : List ℕ → Option ℕ
size_in b = option_and_then (λ k. size_of_kind k b) (kind b)

-- the type in its head, if its kind has one there
abbrev pub reference_in : List ℕ → Option ℕ
reference_in b = option_and_then (λ k. reference_of_kind k b) (kind b)

-- the kind that it declares, if it is a forward
abbrev pub declared_in : List ℕ → Option Tag
declared_in b = option_and_then (λ k. declared_of_kind k b) (kind b)

-- the length of its list
abbrev pub list_length : List ℕ → ℕ
list_length b = at_kind (λ k. listed_of_kind k b) (kind b)

-- the number of bytes after its head
abbrev pub len_behind : List ℕ → ℕ
len_behind b = at_kind (λ k. variant_len k (size b) (vlen b)) (kind b)

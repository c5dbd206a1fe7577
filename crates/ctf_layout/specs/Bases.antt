-- What a type's size, alignment and resolved type are computed from. Source: ours.
use Rattle.std.specs.Prelude.{◌≡◌, ℕ, min, nat_lt, List, [], ◌∷◌, length, Option, Some, None, Result, Ok, unwrap_or, if◌then◌else◌}
use Rattle.ctf_model.specs.figures.Figures.{enum_size, greater, times}
use Rattle.ctf_model.specs.format.Shown.{ArrayParts, Shape, array_in, list_length}
use Rattle.ctf_model.specs.spaces.Space.{pointer_size}
use Rattle.ctf_model.specs.format.Term.{Body}
use Rattle.ctf_model.specs.format.Term as term
use Rattle.ctf_model.specs.declared.data_model.DataModel.{DataModel}
use Rattle.ctf_model.specs.declared.faults.Fault.{Fault}
use Rattle.ctf_model.specs.declared.kinds.Kind.{Kind}
use Rattle.ctf_model.specs.declared.kinds.Kind.TheVariants.{KUnknown, KInteger, KFloat, KPointer, KArray, KFunction, KStruct, KUnion, KEnum, KForward, KTypedef, KVolatile, KConst, KRestrict}
use Rattle.ctf_layout.specs.declared.bases.Basis.{Basis}
use Rattle.ctf_layout.specs.declared.bases.Basis.TheVariants.{Itself, One, Members}
use Rattle.ctf_layout.specs.declared.bases.Row.{Row}
use Rattle.ctf_layout.specs.declared.extents.Extent.{Extent}
use Rattle.ctf_layout.specs.Extents.{amount, target}
use Rattle.ctf_layout.specs.declared.extents.Amount.TheVariants.{Known, Refused}
use Rattle.ctf_layout.specs.declared.extents.Refusal.TheVariants.{Incomplete}

-- ---- by shape

abbrev pub both : ℕ → Basis
both n = Itself (Known n) (Known n)

abbrev pub of_nothing : Basis
of_nothing = Itself (Refused Incomplete) (Refused Incomplete)

-- a function has size 0 and the alignment of a pointer
abbrev pub of_function : DataModel → Basis
of_function model = Itself (Known 0) (Known (pointer_size model))

-- the elements' type, and their count
abbrev pub of_array : ℕ → Option ArrayParts → Basis
of_array size None = of_nothing
of_array size (Some parts) =
    One (record { 0 = parts.contents }) (Some (record { size = size; count = parts.count }))

-- the type that a typedef or qualifier stands for
abbrev pub of_other : Option ℕ → Basis
of_other None = of_nothing
of_other (Some t) = One (record { 0 = t }) None

abbrev pub of_kind : DataModel → Kind → ℕ → Shape → Basis
of_kind model KInteger size x = both size
of_kind model KFloat size x = both size
of_kind model KPointer size x = both (pointer_size model)
of_kind model KArray size x = of_array size (array_in x.behind)
of_kind model KFunction size x = of_function model
of_kind model KStruct size x = Members size (min 1 (list_length x.behind))
of_kind model KUnion size x = Members size (list_length x.behind)
of_kind model KEnum size x = both (enum_size size)
of_kind model KTypedef size x = of_other x.reference
of_kind model KVolatile size x = of_other x.reference
of_kind model KConst size x = of_other x.reference
of_kind model KRestrict size x = of_other x.reference
of_kind model KForward size x = of_nothing
of_kind model KUnknown size x = of_nothing

abbrev pub basis : DataModel → Shape → Basis
basis model x = of_kind model x.kind (unwrap_or x.size 0) x

-- ---- computing an extent from one type, or from members

-- the size of a row of elements, or without a row the element's own size
abbrev pub row_size : Option Row → Result ℕ Fault → Result ℕ Fault
row_size None element = element
row_size (Some row) element = if nat_lt 0 row.size then Ok row.size else times row.count element

-- the resolved type of type `n`: that of `one`, or `n` itself if it is a row
abbrev pub row_target : Option Row → Result ℕ Fault → ℕ → Result ℕ Fault
row_target None one n = one
row_target (Some row) one n = Ok n

-- `e` is the extent of type `one`, or of a row of such elements
pub record IsByOne (n : ℕ) (row : Option Row) (one e : Extent) : Type 0 where
  pub size : amount e.size ≡ row_size row (amount one.size)
  pub align : e.align ≡ one.align
  pub target : target e.target ≡ row_target row (target one.target) n

-- the greatest of some figures, or the first fault
abbrev pub greatest_of : (ℕ → Result ℕ Fault) → List ℕ → Result ℕ Fault
greatest_of f [] = Ok 0
greatest_of f (t ∷ ts) = greater (f t) (greatest_of f ts)

-- the number of members that are read: all of a union, only the first of a struct
abbrev pub members_read : Body → ℕ
members_read (term.struct said members) = min 1 (length members)
members_read (term.union said members) = length members
members_read _ = 0

-- Figures of a type, once typedefs, qualifiers, arrays and members are followed: the type that it
-- resolves to, its size and its alignment. Source: libctf(3LIB), ctf_type_resolve,
-- ctf_type_reference, ctf_type_size, ctf_type_align; where the manual leaves a choice it is ours.
use Rattle.std.specs.Prelude.{ℕ, zero, suc, ◌+◌, ◌*◌, ◌^◌, ◌==◌, is_none, nat_lt, max, List, [], ◌∷◌, Option, Some, None, Result, Ok, Err, slice_get, if◌then◌else◌}
use Rattle.ctf_model.specs.rules.Chains.{longest_chain}
use Rattle.ctf_model.specs.format.Dictionary.{Dictionary}
use Rattle.ctf_model.specs.rules.Refusals.{placeless}
use Rattle.ctf_model.specs.format.Shown.{arguments_in, shape, Shape}
use Rattle.ctf_model.specs.spaces.Space.{Space, pointer_size, space_type}
use Rattle.ctf_model.specs.format.Term.{Term, Body, Member, Elements}
use Rattle.ctf_model.specs.format.Term as term
use Rattle.ctf_model.specs.spaces.TypeNumbers.{no_parent, no_type, or_no_type}
use Rattle.ctf_model.specs.spaces.TypePlaces.{place}
use Rattle.ctf_model.specs.declared.data_model.DataModel.{DataModel}
use Rattle.ctf_model.specs.declared.faults.Fault.{Fault}
use Rattle.ctf_model.specs.declared.faults.TheConstants.Fault.{INCOMPLETE, TOO_BIG, NOT_REFERENCE}
use Rattle.ctf_model.specs.declared.numbers.Place.{Place}
use Rattle.ctf_model.specs.declared.numbers.Place.TheVariants.{Nowhere, Own, Parents}

-- the type has no size or alignment
abbrev pub incomplete : Fault
incomplete = placeless INCOMPLETE

-- a result exceeds 2^64 - 1
abbrev pub too_big : Fault
too_big = placeless TOO_BIG

-- ---- figures

-- A number computed for every type: `of_none` for number 0, and `of_type` for a type, given the
-- figures of the types that it leads to by value.
pub record Figure : Type 0 where
  pub of_none : Result ℕ Fault
  pub of_type : (ℕ → Result ℕ Fault) → ℕ → Body → Result ℕ Fault

abbrev pub of_found : Figure → (ℕ → Result ℕ Fault) → ℕ → Result Term Fault → Result ℕ Fault
of_found figure others n (Err f) = Err f
of_found figure others n (Ok x) = figure.of_type others n x.body

-- the figure of the type at a place; `others` gives the figures of own types, `parents` those of
-- the parent's
abbrev pub at_place : Figure → (ℕ → Result ℕ Fault) → (ℕ → Result ℕ Fault) → Dictionary → ℕ → Place
    → Result ℕ Fault
at_place figure parents others d n Nowhere = Err no_type
at_place figure parents others d n (Own i) =
    of_found figure others n (or_no_type (slice_get d.terms i))
at_place figure parents others d n (Parents i) = parents n

-- The figure of number `n`, following at most `k` numbers. Beyond that bound the result is
-- `Incomplete`; a dictionary without a fault never reaches it.
unfoldable pub comes_to : Figure → (ℕ → Result ℕ Fault) → Dictionary → ℕ → ℕ → Result ℕ Fault
comes_to figure parents d zero n = Err incomplete
comes_to figure parents d (suc k) n =
    if n == 0 then figure.of_none
    else at_place figure parents (comes_to figure parents d k) d n (place d.child n)

-- The bound that no dictionary without a fault reaches: a longest chain has one type more than
-- steps, and one more number, 0 or a parent's, may follow its last type.
unfoldable pub most_numbers : ℕ
most_numbers = longest_chain + 2

-- the figure of a parent's number; a parent's types lead only to its own types
abbrev pub parents_figure : Figure → Option Dictionary → ℕ → Result ℕ Fault
parents_figure figure None n = Err no_parent
parents_figure figure (Some parent) n = comes_to figure (λ t. Err no_parent) parent most_numbers n

-- the figure of number `n` in a space
abbrev pub figure_in : Figure → Space → ℕ → Result ℕ Fault
figure_in figure s n = comes_to figure (parents_figure figure s.parent) s.own most_numbers n

-- ---- resolved types

-- typedefs and qualifiers resolve to their type, all others to themselves
abbrev pub resolved_body : (ℕ → Result ℕ Fault) → ℕ → Body → Result ℕ Fault
resolved_body resolved_type n (term.typedef t) = resolved_type t
resolved_body resolved_type n (term.volatile t) = resolved_type t
resolved_body resolved_type n (term.const t) = resolved_type t
resolved_body resolved_type n (term.restrict t) = resolved_type t
resolved_body resolved_type n _ = Ok n

abbrev pub resolving : Figure
resolving = record { of_none = Ok 0; of_type = resolved_body }

-- the type that `n` resolves to; 0 if that is no type
abbrev pub resolved_type : Space → ℕ → Result ℕ Fault
resolved_type = figure_in resolving

-- ---- references

abbrev pub or_not_reference : Option ℕ → Result ℕ Fault
or_not_reference None = Err (placeless NOT_REFERENCE)
or_not_reference (Some t) = Ok t

-- what a pointer, typedef or qualifier refers to; a function's return type is no reference
abbrev pub referred_type : Shape → Result ℕ Fault
referred_type x =
    if is_none (arguments_in x.behind) then or_not_reference x.reference
    else Err (placeless NOT_REFERENCE)

abbrev pub referred_by : Result Term Fault → Result ℕ Fault
referred_by (Err f) = Err f
referred_by (Ok x) = referred_type (shape x.body)

abbrev pub reference : Space → ℕ → Result ℕ Fault
reference s n = referred_by (space_type s n)

-- ---- size

abbrev pub unless_too_big : ℕ → Result ℕ Fault
unless_too_big n = if nat_lt n (2 ^ 64) then Ok n else Err too_big

-- `count` times a size
abbrev pub times : ℕ → Result ℕ Fault → Result ℕ Fault
times count (Err f) = Err f
times count (Ok size) = unless_too_big (size * count)

-- an enum that states no size has that of int (ours)
abbrev pub enum_size : ℕ → ℕ
enum_size size = if nat_lt 0 size then size else 4

-- an array that states no size has count times the size of its elements
abbrev pub array_size : (ℕ → Result ℕ Fault) → Elements → Result ℕ Fault
array_size size a = if nat_lt 0 a.size then Ok a.size else times a.count (size a.contents)

-- the size in bytes of a type, given the sizes of others
abbrev pub size_body : DataModel → (ℕ → Result ℕ Fault) → Body → Result ℕ Fault
size_body model size (term.integer scalar) = Ok scalar.size
size_body model size (term.float scalar) = Ok scalar.size
size_body model size (term.pointer t) = Ok (pointer_size model)
size_body model size (term.array elements) = array_size size elements
size_body model size (term.function returned arguments) = Ok 0
size_body model size (term.struct said members) = Ok said
size_body model size (term.union said members) = Ok said
size_body model size (term.enum said enumerators) = Ok (enum_size said)
size_body model size (term.typedef t) = size t
size_body model size (term.volatile t) = size t
size_body model size (term.const t) = size t
size_body model size (term.restrict t) = size t
size_body model size (term.forward tag) = Err incomplete
size_body model size term.unknown = Err incomplete

abbrev pub sizing : DataModel → Figure
sizing model = record { of_none = Err incomplete; of_type = λ size n. size_body model size }

-- the size in bytes of a value of type `n`
abbrev pub size : Space → ℕ → Result ℕ Fault
size s = figure_in (sizing s.model) s

-- ---- alignment

-- the greater of two figures, or the first fault
abbrev pub greater : Result ℕ Fault → Result ℕ Fault → Result ℕ Fault
greater (Err f) b = Err f
greater (Ok a) (Err f) = Err f
greater (Ok a) (Ok b) = Ok (max a b)

-- the greatest figure of the members' types, or the first fault; 0 without members
abbrev pub greatest : (ℕ → Result ℕ Fault) → List Member → Result ℕ Fault
greatest align [] = Ok 0
greatest align (m ∷ ms) = greater (align m.tnum) (greatest align ms)

-- the figure of the first member's type; 0 without members
abbrev pub first_of : (ℕ → Result ℕ Fault) → List Member → Result ℕ Fault
first_of align [] = Ok 0
first_of align (m ∷ ms) = align m.tnum

-- the alignment in bytes of a type, given the alignments of others
abbrev pub align_body : DataModel → (ℕ → Result ℕ Fault) → Body → Result ℕ Fault
align_body model align (term.integer scalar) = Ok scalar.size
align_body model align (term.float scalar) = Ok scalar.size
align_body model align (term.pointer t) = Ok (pointer_size model)
align_body model align (term.array elements) = align elements.contents
align_body model align (term.function returned arguments) = Ok (pointer_size model)
align_body model align (term.struct said members) = first_of align members
align_body model align (term.union said members) = greatest align members
align_body model align (term.enum said enumerators) = Ok (enum_size said)
align_body model align (term.typedef t) = align t
align_body model align (term.volatile t) = align t
align_body model align (term.const t) = align t
align_body model align (term.restrict t) = align t
align_body model align (term.forward tag) = Err incomplete
align_body model align term.unknown = Err incomplete

abbrev pub aligning : DataModel → Figure
aligning model = record { of_none = Err incomplete; of_type = λ align n. align_body model align }

-- the alignment in bytes of type `n`
abbrev pub align : Space → ℕ → Result ℕ Fault
align s = figure_in (aligning s.model) s

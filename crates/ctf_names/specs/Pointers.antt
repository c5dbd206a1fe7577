-- Pointers by the type that they point to. Source: ours.
use Rattle.std.specs.Prelude.{◌≡◌, ◌+◌, ◌-◌, ◌<◌, ◌≤◌, ℕ, ◌==◌, ◌&&◌, nat_le, nat_lt, Bool, true, false, List, length, Option, Some, None, slice_get, slice_index_or, if◌then◌else◌}
use Rattle.std.specs.List.{list_any, Contains}
use Rattle.std.specs.Ordering.{is_lt, nat_cmp, ordering_then}
use Rattle.ctf_model.specs.names.Lookups.{is_pointer_body, is_pointer_to}
use Rattle.ctf_model.specs.format.Term.{Term}
use Rattle.ctf_names.specs.Leading.{AllLead}
use Rattle.ctf_names.specs.declared.pointers.Pointer.{Pointer}

abbrev pub points_to : ℕ → Option Term → Bool
points_to target None = false
points_to target (Some x) = is_pointer_body target x.body

-- the pointer exists, and points to its stated target
abbrev pub is_pointer_of : List Term → Pointer → Bool
is_pointer_of terms p = points_to p.target (slice_get terms p.place)

-- a pointer to this type, at this place or an earlier one
abbrev pub is_early_pointer : ℕ → ℕ → Pointer → Bool
is_early_pointer target place p = p.target == target && nat_le p.place place

-- the slot of a target type; none if it is outside the slots
abbrev pub slot : ℕ → ℕ → ℕ → Option ℕ
slot base slots target =
    if nat_lt target base then None
    else if nat_lt (target - base) slots then Some (target - base)
    else None

-- these are pointers; for each type without a slot they contain the first pointer to it from `from`
-- on
pub record HasOutside (terms : List Term) (base slots from : ℕ) (pointers : List Pointer)
    : Type 0 where
  pub inside : (p : Pointer) → Contains pointers p → is_pointer_of terms p ≡ true
  pub all : (i t : ℕ) → from ≤ i → slot base slots t ≡ None → points_to t (slice_get terms i) ≡ true
      → list_any (is_early_pointer t i) pointers ≡ true

-- for the types from `from` on: each slot leads to the first pointer to its type, and the others
-- are in the list
pub record PointersFrom (terms : List Term) (base from : ℕ) (firsts : List ℕ)
    (outside : List Pointer) : Type 0 where
  pub slots : AllLead (λ k. is_pointer_to (base + k)) terms from firsts
  pub others : HasOutside terms base (length firsts) from outside

-- ordered by target, then by place
abbrev pub pointer_precedes : Pointer → Pointer → Bool
pointer_precedes a b = is_lt (ordering_then (nat_cmp a.target b.target) (nat_cmp a.place b.place))

-- pointers before `place` have lower targets
abbrev pub LowerBefore : List Pointer → ℕ → ℕ → Type 0
LowerBefore pointers target place = (j : ℕ) (d : Pointer) → j < place
    → nat_lt (slice_index_or pointers j d).target target ≡ true

-- pointers from `place` on do not
abbrev pub NoneLowerBehind : List Pointer → ℕ → ℕ → Type 0
NoneLowerBehind pointers target place = (j : ℕ) (d : Pointer) → place ≤ j → j < length pointers
    → nat_lt (slice_index_or pointers j d).target target ≡ false

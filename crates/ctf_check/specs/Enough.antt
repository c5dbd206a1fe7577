-- A bound on the type numbers that records refer to: with that many types, no reference is missing.
-- Source: ours.
use Rattle.std.specs.Prelude.{ℕ, ◌+◌, ◌==◌, max, Bool, List, [], ◌∷◌, Result, Ok, Err, if◌then◌else◌}
use Rattle.ctf_model.specs.rules.References.{has_long_tag}
use Rattle.ctf_model.specs.format.Section.{Piece}
use Rattle.ctf_model.specs.spaces.TypePlaces.{place}
use Rattle.ctf_check.specs.Named.{named_types}
use Rattle.ctf_model.specs.declared.faults.Fault.{Fault}
use Rattle.ctf_model.specs.declared.numbers.Place.{Place}
use Rattle.ctf_model.specs.declared.numbers.Place.TheVariants.{Nowhere, Own, Parents}

-- for the number at a place; 32,767, more than any dictionary has, if no type can be there
abbrev pub enough_at : ℕ → Place → ℕ
enough_at n Nowhere = if n == 0 then 0 else 32767
enough_at n (Own i) = i + 1
enough_at n (Parents i) = 0

abbrev pub enough_for : Bool → ℕ → ℕ
enough_for child n = enough_at n (place child n)

-- for several numbers: the greatest bound
unfoldable pub enough_among : Bool → List ℕ → ℕ
enough_among child [] = 0
enough_among child (n ∷ ns) = max (enough_for child n) (enough_among child ns)

-- for a record
unfoldable pub record_enough : Bool → List ℕ → ℕ
record_enough child b = if has_long_tag b then 32767 else enough_among child (named_types b)

-- for all records up to a fault
unfoldable pub records_enough : Bool → List (Result Piece Fault) → ℕ
records_enough child [] = 0
records_enough child (Ok p ∷ rest) = max (record_enough child p.bytes) (records_enough child rest)
records_enough child (Err f ∷ rest) = 0

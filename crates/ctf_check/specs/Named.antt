-- The types that a record refers to, read from its bytes without its members' names. Source:
-- ctf(5), "The Type Section"; proofs/Naming.antt shows that they are those of the type that it
-- spells.
use Rattle.std.specs.Prelude.{ℕ, ◌||◌, Bool, List, [], ◌∷◌, ◌++◌, Option, Some, None, Result, Ok, Err, if◌then◌else◌}
use Rattle.std.specs.List.{list_any}
use Rattle.ctf_model.specs.rules.References.{is_missing, has_long_tag}
use Rattle.ctf_model.specs.format.Section.{Piece}
use Rattle.ctf_records.specs.ByKind.{reference_in}
use Rattle.ctf_records.specs.ListedTypes.{listed_types}
use Rattle.ctf_model.specs.declared.faults.Fault.{Fault}

abbrev pub in_head : Option ℕ → List ℕ
in_head None = []
in_head (Some n) = n ∷ []

-- the type in the head, if there is one, then those after it
abbrev pub named_types : List ℕ → List ℕ
named_types b = in_head (reference_in b) ++ listed_types b

-- a record refers to a missing type in a dictionary of `count` types, or a forward has the mark of
-- the long form in its field
unfoldable pub misnames : Bool → ℕ → List ℕ → Bool
misnames child count b = has_long_tag b || list_any (is_missing child count) (named_types b)

-- the number of the first such record
unfoldable pub first_that_misnames : Bool → ℕ → List (Result Piece Fault) → Option ℕ
first_that_misnames child count [] = None
first_that_misnames child count (Ok p ∷ rest) =
    if misnames child count p.bytes then Some p.index else first_that_misnames child count rest
first_that_misnames child count (Err f ∷ rest) = None

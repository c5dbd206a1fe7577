-- The types of its parent that a child refers to. Source: ctf(5), on parents and children;
-- CTF_TYPE_ISPARENT of sys/ctf.h.
use Rattle.std.specs.Prelude.{ℕ, ◌+◌, max, true, List, [], ◌∷◌, ◌++◌, if◌then◌else◌}
use Rattle.std.specs.List.{flat_map}
use Rattle.ctf_model.specs.format.Dictionary.{Dictionary}
use Rattle.ctf_model.specs.symbols.Entries.{types_named}
use Rattle.ctf_model.specs.rules.References.{references}
use Rattle.ctf_model.specs.spaces.TypePlaces.{place}
use Rattle.ctf_model.specs.declared.numbers.Place.{Place}
use Rattle.ctf_model.specs.declared.numbers.Place.TheVariants.{Parents}

-- the parent's number of the type at a place; 0 for one of the child's own, or no type
abbrev pub parents_number : Place → ℕ
parents_number (Parents i) = i + 1
parents_number _ = 0

-- the same for a number as the child writes it
abbrev pub number_in_parent : ℕ → ℕ
number_in_parent n = parents_number (place true n)

-- the greatest such number; 0 if there is none
unfoldable pub greatest_in_parent : List ℕ → ℕ
greatest_in_parent [] = 0
greatest_in_parent (n ∷ ns) = max (number_in_parent n) (greatest_in_parent ns)

-- the types that a dictionary's types and symbols refer to
abbrev pub named_by : Dictionary → List ℕ
named_by d =
    flat_map (λ x. references x.body) d.terms ++ flat_map (λ e. types_named e.info) d.entries

-- the greatest number of a parent's type that a dictionary refers to; 0 if it is no child
abbrev pub greatest_needed : Dictionary → ℕ
greatest_needed d = if d.child then greatest_in_parent (named_by d) else 0

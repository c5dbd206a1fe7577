-- The lists that a type belongs to. Source: ours.
use Rattle.std.specs.Prelude.{Option, Some, None}
use Rattle.ctf_model.specs.format.Lists.{Lists}
use Rattle.ctf_model.specs.declared.numbers.Place.{Place}
use Rattle.ctf_model.specs.declared.numbers.Place.TheVariants.{Nowhere, Own, Parents}

-- the lists of the dictionary that contains the type at this place
abbrev pub lists_at : Place → Lists → Option Lists → Option Lists
lists_at Nowhere own parent = None
lists_at (Own i) own parent = Some own
lists_at (Parents i) own parent = parent

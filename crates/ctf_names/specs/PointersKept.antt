-- The pointers of a dictionary, as they are stored. Source: ours.
use Rattle.std.specs.Prelude.{List}
use Rattle.std.specs.List.Sorted.{IsSortedBy}
use Rattle.ctf_model.specs.format.Term.{Term}
use Rattle.ctf_names.specs.Pointers.{pointer_precedes, PointersFrom}
use Rattle.ctf_names.specs.declared.pointers.Pointers.{Pointers}

-- all of them, and those without a slot in order
pub record ArePointers (terms : List Term) (p : Pointers) : Type 0 where
  pub all : PointersFrom terms p.base 0 p.firsts.items p.outside.items
  pub sorted : IsSortedBy pointer_precedes p.outside.items

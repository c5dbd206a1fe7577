-- When an index of names fits a space. Source: ours.
use Rattle.std.specs.Prelude.{◌≡◌, Option}
use Rattle.std.specs.Option.{ForSome, is_some, option_map}
use Rattle.ctf_model.specs.format.Dictionary.{said_by}
use Rattle.ctf_model.specs.format.Lists.{Lists}
use Rattle.ctf_names.specs.Chained.{Chained}
use Rattle.ctf_names.specs.PointersKept.{ArePointers}
use Rattle.ctf_names.specs.declared.index.NameIndex.{NameIndex}
use Rattle.ctf_names.specs.declared.kept.Names.{Names}

-- the chains of all types by name, and the pointers of a dictionary
pub record IsNamesOf (s : Lists) (n : Names) : Type 0 where
  pub names : Chained (said_by s).terms 0 n.chains.heads.items n.chains.next.items
  pub pointers : ArePointers (said_by s).terms n.pointers

-- the parent's index exists exactly if there is a parent, and is correct
pub record OverParent (parent : Option Lists) (names : Option Names) : Type 0 where
  pub both : is_some names ≡ is_some parent
  pub right : ForSome parent (λ p. ForSome names (IsNamesOf p))

-- the index of a dictionary, and of its parent if it has one
pub record Fits (own : Lists) (parent : Option Lists) (index : NameIndex) : Type 0 where
  pub names : IsNamesOf own index.own.value
  pub over : OverParent parent (option_map (λ rc. rc.value) index.parent)

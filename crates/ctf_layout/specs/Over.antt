-- The extents of a parent's types, stored with a child's. Source: ours.
use Rattle.std.specs.Prelude.{◌≡◌, false, List, Option}
use Rattle.std.specs.Option.{ForSome, is_some}
use Rattle.ctf_model.specs.figures.FigureLaws.{parent_alone}
use Rattle.ctf_model.specs.spaces.Space.{Space}
use Rattle.ctf_layout.specs.Kept.{AreExtents}
use Rattle.ctf_layout.specs.declared.extents.Extent.{Extent}

-- they exist exactly if there is a parent; that parent is no child, and they are correct
pub record OverParent (s : Space) (extents : Option (List Extent)) : Type 0 where
  pub both : is_some extents ≡ is_some s.parent
  pub plain : ForSome s.parent (λ p. p.child ≡ false)
  pub right : ForSome s.parent (λ p. ForSome extents (λ es. AreExtents (parent_alone s p) es))

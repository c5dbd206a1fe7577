-- When a layout fits a space. Source: ours.
use Rattle.std.specs.Prelude.{◌≡◌, ℕ}
use Rattle.std.specs.Option.{option_map}
use Rattle.ctf_model.specs.spaces.Space.{Space}
use Rattle.ctf_layout.specs.Kept.{AreExtents}
use Rattle.ctf_layout.specs.Over.{OverParent}
use Rattle.ctf_layout.specs.SmallExtents.{extents_in}
use Rattle.ctf_layout.specs.declared.layout.Layout.{Layout}

-- the number of steps that it took
abbrev pub steps_of : Layout → ℕ
steps_of l = l.steps

-- the layout has the extents of the own types, and of the parent's types if there is a parent
pub record Fits (s : Space) (l : Layout) : Type 0 where
  pub child : l.child ≡ s.own.child
  pub own : AreExtents s (extents_in l.own.value)
  pub parent : OverParent s (option_map (λ rc. extents_in rc.value) l.parent)

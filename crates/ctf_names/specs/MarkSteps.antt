-- The marks of layers, computed from the innermost on. Source: ours.
use Rattle.std.specs.Prelude.{ℕ, ◌==◌, List, drop, Option, Some}
use Rattle.ctf_names.specs.Marks.{marks}
use Rattle.ctf_model.specs.declared.layers.Layer.{Layer}
use Rattle.ctf_model.specs.declared.layers.Layer.TheVariants.{Pointer, Array, Function, Qualified}
use Rattle.ctf_names.specs.declared.marks.Mark.{Mark}

-- the first layer that is no qualifier, given a layer and the result for those inside
abbrev pub beyond : Layer → Option Layer → Option Layer
beyond (Qualified q) below = below
beyond Pointer below = Some Pointer
beyond (Array count) below = Some (Array count)
beyond Function below = Some Function

-- the marks of the layers from index `i` on
abbrev pub marks_from : ℕ → List Layer → List Mark
marks_from i layers = marks (i == 0) (drop i layers)

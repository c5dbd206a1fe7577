-- Unrolling a declaration from its outermost layer. Source: ours.
use Rattle.std.specs.Prelude.{List, [], ◌∷◌, Result}
use Rattle.ctf_model.specs.names.TypeNames.{Declaration, around}
use Rattle.ctf_model.specs.declared.faults.Fault.{Fault}
use Rattle.ctf_model.specs.declared.layers.Layer.{Layer}
use Rattle.ctf_names.specs.Bases.{base_text}
use Rattle.ctf_names.specs.declared.unrolling.Unrolled.{Unrolled}

abbrev pub declare : Unrolled → Declaration
declare u = record { layers = u.layers.items; name = base_text u.base }

-- `inside` within these layers
abbrev pub around_all : List Layer → Result Declaration Fault → Result Declaration Fault
around_all [] inside = inside
around_all (layer ∷ layers) inside = around layer (around_all layers inside)

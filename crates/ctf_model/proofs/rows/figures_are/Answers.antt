use Rattle.std.proofs.Common.{refl}
use Rattle.ctf_model.specs.figures.Figures.{comes_to, most_numbers}
use Rattle.ctf_model.proofs.rows.figures_are.Goals as goal

pub returns : goal.returns
unfolding comes_to most_numbers
returns c = record { integer = refl; pointer = refl; short_pointer = refl; short_pointer_align = refl; function = refl; function_align = refl; forward = refl; forward_align = refl; array = refl; array_align = refl; said_array = refl; said_array_align = refl; typedef = refl; typedef_resolved = refl; typedef_reference = refl; array_reference = refl; function_reference = refl; nothing = refl; nothing_resolved = refl; enum = refl; enum_align = refl; struct = refl; struct_align = refl; union_align = refl; empty_align = refl; unknown = refl; first_fault = refl; great = refl; too_big = refl; contents_first = refl; no_number = refl; zero_resolved = refl; zero_reference = refl; past = refl }

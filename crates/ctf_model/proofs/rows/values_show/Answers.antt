use Rattle.std.proofs.Common.{refl}
use Rattle.std.specs.Fmt.{digits}
use Rattle.ctf_model.specs.format.Bytes.{number}
use Rattle.ctf_model.specs.figures.Figures.{comes_to, most_numbers}
use Rattle.ctf_model.specs.values.MemoryBits.{hexadecimal}
use Rattle.ctf_model.specs.values.Pieces.{then_pieces}
use Rattle.ctf_model.specs.values.Values.{most_values, name_of_value, shown_within}
use Rattle.ctf_model.proofs.rows.values_show.Goals as goal

pub returns : goal.returns
unfolding shown_within most_values then_pieces number hexadecimal name_of_value comes_to most_numbers digits
returns c = record { below_zero = refl; above_zero = refl; short = refl; from_a_bit = refl; struct = refl; enumerator_named = refl; other_number = refl; number_below_zero = refl; double = refl; forward = refl; pointer = refl; pointer_short = refl; short_pointer = refl; array = refl; qualified = refl; no_elements = refl; no_size = refl; union = refl; no_bits = refl; many_bits = refl; all_bits = refl; least = refl; unsigned = refl; wide_enum = refl; first_name = refl; no_name = refl; never_so_great = refl; enum_of_int = refl; enum_of_int_short = refl; first_fault = refl; short_before = refl; unknown = refl; function = refl; of_nothing = refl; of_none = refl; no_type = refl; no_number = refl; empties = refl; void_float = refl; float_behind = refl; far = refl }

use Rattle.std.proofs.Common.{refl}
use Rattle.std.specs.Fmt.{digits}
use Rattle.ctf_model.specs.format.Bytes.{number}
use Rattle.ctf_model.specs.figures.Figures.{comes_to, most_numbers}
use Rattle.ctf_model.specs.values.MemoryBits.{hexadecimal}
use Rattle.ctf_model.specs.values.Pieces.{then_pieces}
use Rattle.ctf_model.specs.values.Values.{most_values, name_of_value, shown_within}
use Rattle.ctf_model.proofs.rows.values_over_parents.Goals as goal

pub returns : goal.returns
unfolding shown_within most_values then_pieces number hexadecimal name_of_value comes_to most_numbers digits
returns c = record { parents = refl; named = refl; array = refl; no_parent = refl; array_without = refl }

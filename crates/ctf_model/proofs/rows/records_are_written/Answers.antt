use Rattle.std.proofs.Common.{refl}
use Rattle.ctf_model.specs.writing.WrittenNames.{name_reference}
use Rattle.ctf_model.specs.writing.WrittenRecords.{record_bytes}
use Rattle.ctf_model.proofs.rows.records_are_written.Goals as goal

pub returns : goal.returns
unfolding name_reference record_bytes
returns c = record { unknown = refl; integer = refl; float = refl; pointer = refl; array = refl; sized_array = refl; no_arguments = refl; odd_arguments = refl; even_arguments = refl; struct = refl; last_narrow = refl; first_wide = refl; last_short = refl; first_long = refl; two_halves = refl; union = refl; enum = refl; forward_struct = refl; forward_union = refl; forward_enum = refl; typedef = refl; volatile = refl; const = refl; restrict = refl }

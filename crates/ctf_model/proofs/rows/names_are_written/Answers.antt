use Rattle.std.proofs.Common.{refl}
use Rattle.ctf_model.specs.writing.WrittenNames.{distinct, name_reference, strings_of, used_names}
use Rattle.ctf_model.proofs.rows.names_are_written.Goals as goal

pub returns : goal.returns
unfolding distinct name_reference strings_of used_names
returns c = record { once = refl; empty = refl; first = refl; last = refl }

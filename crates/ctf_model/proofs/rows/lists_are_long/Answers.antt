use Rattle.std.proofs.Common.{refl}
use Rattle.ctf_model.proofs.rows.lists_are_long.Goals as goal

pub returns : goal.returns
returns c = record { integer = refl; float = refl; pointer = refl; array = refl; two_arguments = refl; three_arguments = refl; short_members = refl; long_members = refl; union = refl; enumerators = refl }

use Rattle.std.proofs.Common.{refl}
use Rattle.ctf_layout.proofs.rows.work_is_counted.Goals as goal

pub returns : goal.returns
returns c = record { of_structs = refl; of_unions = refl; over_parents = refl; at_most = refl }

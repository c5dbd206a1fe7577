use Rattle.std.proofs.Common.{refl}
use Rattle.ctf_protocol.specs.sessions.Charges.{charge}
use Rattle.ctf_protocol.proofs.rows.dictionaries_count.Goals as goal

pub returns : goal.returns
unfolding charge
returns c = record { nothing = refl; slot_and_parent = refl; each_slot = refl; publication = refl; staged = refl; all_lists = refl }

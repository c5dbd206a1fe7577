use Rattle.std.proofs.Common.{refl}
use Rattle.ctf_model.proofs.rows.numbers_name.Goals as goal

pub returns : goal.returns
returns c = record { zero_is_none = refl; first = refl; past = refl; no_parent = refl; in_parent = refl; past_parent = refl; child_zero = refl; between = refl; own = refl; past_own = refl }

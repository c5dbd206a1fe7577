use Rattle.std.proofs.Common.{refl}
use Rattle.ctf_model.proofs.rows.arguments_are_named.Goals as goal

pub returns : goal.returns
returns c = record { none = refl; two = refl; first_of_none = refl; more = refl; more_alone = refl; no_more = refl; may_follow = refl }

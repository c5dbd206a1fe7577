use Rattle.std.proofs.Common.{refl}
use Rattle.std.specs.Fmt.{digits}
use Rattle.ctf_model.specs.names.TypeNames.{declaration_within, declared}
use Rattle.ctf_model.proofs.rows.names_over_parents.Goals as goal

pub returns : goal.returns
unfolding declaration_within declared digits
returns c = record { parents = refl; own = refl; of_parent = refl; past_parent = refl; between = refl; round_an_array = refl; no_parent = refl; no_parent_later = refl; nothing = refl }

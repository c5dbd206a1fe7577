use Rattle.std.proofs.Common.{refl}
use Rattle.ctf_model.specs.figures.Figures.{comes_to, most_numbers}
use Rattle.ctf_model.specs.figures.Paths.{path_from}
use Rattle.ctf_model.proofs.rows.paths_lead.Goals as goal

pub returns : goal.returns
unfolding comes_to most_numbers path_from
returns c = record { inner = refl; declared = refl; through_typedefs = refl; typedefs_last = refl; first_of_a_name = refl; no_member = refl; not_aggregate = refl; nothing_is_no_aggregate = refl; type_before_step = refl; no_type = refl; no_step = refl; far = refl; too_far = refl }

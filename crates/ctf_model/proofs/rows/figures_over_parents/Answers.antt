use Rattle.std.proofs.Common.{refl}
use Rattle.ctf_model.specs.figures.Figures.{comes_to, most_numbers}
use Rattle.ctf_model.proofs.rows.figures_over_parents.Goals as goal

pub returns : goal.returns
unfolding comes_to most_numbers
returns c = record { own = refl; of_parent = refl; parents_align = refl; past_parent = refl; between = refl; no_parent = refl; no_parents_resolved = refl; own_resolved = refl; parents_resolved = refl }

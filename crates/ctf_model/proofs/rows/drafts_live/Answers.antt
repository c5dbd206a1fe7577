use Rattle.std.proofs.Common.{refl}
use Rattle.ctf_model.specs.drafts.Adders.{add_type, add_member, add_enumerator, add_label}
use Rattle.ctf_model.specs.rules.Chains.{edges, within}
use Rattle.ctf_model.specs.drafts.DraftChanges.{after}
use Rattle.ctf_model.specs.drafts.Drafts.{new_draft}
use Rattle.ctf_model.specs.figures.Figures.{comes_to, most_numbers}
use Rattle.ctf_model.proofs.rows.drafts_live.Goals as goal

pub returns : goal.returns
unfolding add_type add_member add_enumerator add_label edges within after new_draft comes_to most_numbers
returns c = record { created = refl; zero_in_parname = refl; zero_in_parlabel = refl; parent_is_child = refl; model_differs = refl; under_short = refl; nothing_held = refl; first = refl; pending = refl; none_pending = refl; discards_pending = refl; number_again = refl; settles_once = refl; discards_labels = refl }

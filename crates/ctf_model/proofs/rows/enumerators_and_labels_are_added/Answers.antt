use Rattle.std.proofs.Common.{refl}
use Rattle.ctf_model.specs.drafts.Adders.{add_type, add_member, add_enumerator, add_label}
use Rattle.ctf_model.specs.rules.Chains.{edges, within}
use Rattle.ctf_model.specs.drafts.DraftChanges.{after}
use Rattle.ctf_model.specs.drafts.Drafts.{new_draft}
use Rattle.ctf_model.specs.figures.Figures.{comes_to, most_numbers}
use Rattle.ctf_model.proofs.rows.enumerators_and_labels_are_added.Goals as goal

pub returns : goal.returns
unfolding add_type add_member add_enumerator add_label edges within after new_draft comes_to most_numbers
returns c = record { terms = refl; labels = refl; second_name = refl; double = refl; last_of_1023 = refl; past_1023 = refl; zero = refl; no_type = refl; settled = refl; struct = refl; label_again = refl; updated_label_again = refl; no_name_once = refl; zero_in_label = refl }

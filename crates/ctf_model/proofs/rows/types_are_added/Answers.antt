use Rattle.std.proofs.Common.{refl}
use Rattle.ctf_model.specs.drafts.Adders.{add_type, add_member, add_enumerator, add_label}
use Rattle.ctf_model.specs.rules.Chains.{edges, within}
use Rattle.ctf_model.specs.drafts.DraftChanges.{after}
use Rattle.ctf_model.specs.drafts.Drafts.{new_draft}
use Rattle.ctf_model.specs.figures.Figures.{comes_to, most_numbers}
use Rattle.ctf_model.proofs.rows.types_are_added.Goals as goal

pub returns : goal.returns
unfolding add_type add_member add_enumerator add_label edges within after new_draft comes_to most_numbers
returns c = record { past_the_last = refl; absent_before_full = refl; float = refl; pointer = refl; to_nothing = refl; to_itself = refl; array = refl; no_index = refl; function = refl; no_argument = refl; most_arguments = refl; too_many_arguments = refl; struct = refl; union = refl; enum = refl; forward = refl; typedef = refl; volatile = refl; const = refl; restrict = refl; unknown = refl; zero_first = refl; held_as_new = refl; in_child = refl; parents_last = refl; past_parent = refl; between = refl; own_of_child = refl }

use Rattle.std.proofs.Common.{refl}
use Rattle.ctf_model.specs.drafts.Adders.{add_type, add_member, add_enumerator, add_label}
use Rattle.ctf_model.specs.rules.Chains.{edges, within}
use Rattle.ctf_model.specs.drafts.DraftChanges.{after}
use Rattle.ctf_model.specs.drafts.Drafts.{new_draft}
use Rattle.ctf_model.specs.figures.Figures.{comes_to, most_numbers}
use Rattle.ctf_model.proofs.rows.members_are_added.Goals as goal

pub returns : goal.returns
unfolding add_type add_member add_enumerator add_label edges within after new_draft comes_to most_numbers
returns c = record { after_512_steps = refl; after_513_steps = refl; last_of_1023 = refl; past_1023 = refl; full_before_double = refl; behind_first = refl; third = refl; stated = refl; double = refl; names_may_lack = refl; zero = refl; no_type = refl; number_zero = refl; settled_before_kind = refl; settled = refl; parents = refl; enum = refl; absent = refl; forward = refl; nothing = refl; far = refl; too_far = refl; itself = refl; deep = refl; discarded = refl }

use Rattle.std.proofs.Common.{refl}
use Rattle.ctf_model.specs.drafts.Adders.{add_type, add_member, add_enumerator, add_label}
use Rattle.ctf_model.specs.rules.Chains.{edges, within}
use Rattle.ctf_model.specs.drafts.DraftChanges.{after}
use Rattle.ctf_model.specs.drafts.Drafts.{new_draft}
use Rattle.ctf_model.specs.figures.Figures.{comes_to, most_numbers}
use Rattle.ctf_model.proofs.rows.members_are_placed.Goals as goal

pub returns : goal.returns
unfolding add_type add_member add_enumerator add_label edges within after new_draft comes_to most_numbers
returns c = record { stated_size = refl; two_of_them = refl; long_pointer = refl; short_pointer = refl; long_struct = refl; short_struct = refl; long_size = refl; short_size = refl; long_align = refl; short_align = refl; long_struct_align = refl; short_struct_align = refl; long_function_align = refl; short_function_align = refl; long_places = refl; short_places = refl; under_long = refl; under_short = refl; union_size = refl; in_union = refl; bits = refl; bits_size = refl; many_placed = refl; last_too_big = refl; stated_needs_none = refl; too_big = refl }

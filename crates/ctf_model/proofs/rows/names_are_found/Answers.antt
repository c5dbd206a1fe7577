use Rattle.std.proofs.Common.{refl}
use Rattle.ctf_model.specs.figures.Figures.{comes_to, most_numbers}
use Rattle.ctf_model.proofs.rows.names_are_found.Goals as goal

pub returns : goal.returns
unfolding comes_to most_numbers
returns c = record { bare = refl; two_stars = refl; inner_star = refl; one_star = refl; int = refl; pointer = refl; no_blank = refl; no_pointer = refl; star_alone = refl; nothing = refl; blank_first = refl; not_there = refl; behind_qualifiers = refl; to_pointer = refl; none_to_array = refl; not_hidden = refl; struct = refl; union = refl; enum = refl; plain = refl; word_alone = refl; two_blanks = refl; one_blank = refl; hidden_pointer = refl; to_nothing = refl; typedef_of_nothing = refl; typedef_of_no_type = refl; to_typedef = refl; not_by_typedef = refl; fault_stays = refl; own_first = refl; of_parent = refl; own_pointer_first = refl; parents_pointer = refl; behind_typedef = refl; without_parent = refl; pointer_without_parent = refl; no_parent = refl }

use Rattle.std.proofs.Common.{◌≡◌, ◌^◌, ◌*◌, ◌+◌, ◌-◌, min, drop, length, map}
use Rattle.ctf_model.specs.figures.Figures.{size as size_of}
use Rattle.ctf_model.specs.values.Pieces.{separate}
use Rattle.ctf_model.specs.values.Values.{each_element, elements_shown, member_shown}
use Rattle.ctf_print.specs.ImageView.{shows, types_of}
use Rattle.ctf_print.specs.Written.{separated_from, written}
use Rattle.ctf_print.proofs.values.+values.Given as goal

abbrev pub decreases-show_value : goal.decreases-show_value
decreases-show_value l = 5 * l.nesting

abbrev pub decreases-show_again : goal.decreases-show_again
decreases-show_again l = 5 * l.nesting + 1

abbrev pub decreases-show_elements : goal.decreases-show_elements
decreases-show_elements l = 5 * l.nesting

abbrev pub decreases-show_array : goal.decreases-show_array
decreases-show_array l = 5 * l.nesting + 1

abbrev pub decreases-show_member : goal.decreases-show_member
decreases-show_member l = 5 * l.nesting + 1

abbrev pub decreases-show_each_member : goal.decreases-show_each_member
decreases-show_each_member l = 5 * l.nesting + 2

abbrev pub decreases-show_members : goal.decreases-show_members
decreases-show_members l = 5 * l.nesting + 3

abbrev pub decreases-show_by_rule : goal.decreases-show_by_rule
decreases-show_by_rule l = 5 * l.found.now.nesting + 4

abbrev pub invariant-show_elements-loop-i : goal.invariant-show_elements-loop-i
invariant-show_elements-loop-i l = record {
  rest : written l.fn.pen.out (elements_shown (shows l.image l.nesting) l.at l.fn.array.contents.0 l.fn.array.count (size_of (types_of l.image) l.fn.array.contents.0))
      ≡ written l.pen.out (separated_from l.i (drop l.i (each_element (shows l.image l.nesting) l.at l.fn.array.contents.0 l.fn.array.count (size_of (types_of l.image) l.fn.array.contents.0))));
  place : l.place ≡ min (l.at + 8 * l.size * l.i) (2 ^ 128 - 1);
  known : l.pen.known ≡ l.fn.pen.known;
}

abbrev pub invariant-show_each_member-loop-i : goal.invariant-show_each_member-loop-i
invariant-show_each_member-loop-i l = record {
  rest : written l.fn.pen.out (separate (map (member_shown (shows l.image l.nesting) l.at) l.members))
      ≡ written l.pen.out (separated_from l.i (drop l.i (map (member_shown (shows l.image l.nesting) l.at) l.members)));
  known : l.pen.known ≡ l.fn.pen.known;
}

abbrev pub decreases-show_each_member-loop-i : goal.decreases-show_each_member-loop-i
decreases-show_each_member-loop-i l = length l.members - l.i

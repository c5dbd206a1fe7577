use Rattle.std.proofs.Common.{◌≡◌, ◌-◌, length, drop, reverse}
use Rattle.ctf_model.specs.names.TypeNames.{past}
use Rattle.ctf_names.specs.MarkSteps.{marks_from}
use Rattle.ctf_names.proofs.marks.marked.Given as goal

abbrev pub invariant-loop-k : goal.invariant-loop-k
invariant-loop-k l = record {
  found : l.found.items ≡ reverse (marks_from (length l.layers - l.k) l.layers);
  below : l.below ≡ past (drop (length l.layers - l.k) l.layers);
}

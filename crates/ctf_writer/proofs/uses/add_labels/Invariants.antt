use Rattle.std.proofs.Common.{◌≡◌, map, take}
use Rattle.ctf_writer.specs.UsedView.{used_names}
use Rattle.ctf_writer.specs.Uses.{with_names}
use Rattle.ctf_writer.proofs.uses.add_labels.Given as goal

abbrev pub invariant-loop-i : goal.invariant-loop-i
invariant-loop-i l = used_names l.used ≡ with_names (used_names l.fn.used) (map (λ label. label.name) (take l.i l.labels))

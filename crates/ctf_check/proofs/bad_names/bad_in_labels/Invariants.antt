use Rattle.std.proofs.Common.{◌≡◌, ◌+◌, ◌-◌, ◌*◌}
use Rattle.ctf_model.specs.rules.Faults.{first_nameless, label_sites}
use Rattle.ctf_check.specs.EndsView.{tables_in}
use Rattle.ctf_check.proofs.bad_names.bad_in_labels.Given as goal

abbrev pub invariant-loop-i : goal.invariant-loop-i
invariant-loop-i l = first_nameless (tables_in l.ends) (label_sites l.ctf (l.start + 8 * l.i) (l.count - l.i)) ≡ first_nameless (tables_in l.ends) (label_sites l.ctf l.start l.count)

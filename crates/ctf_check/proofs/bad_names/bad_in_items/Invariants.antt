use Rattle.std.proofs.Common.{◌≡◌, ◌*◌, ◌-◌, ◌+◌, drop}
use Rattle.ctf_model.specs.rules.Faults.{first_nameless, item_sites}
use Rattle.ctf_check.specs.EndsView.{tables_in}
use Rattle.ctf_check.proofs.bad_names.bad_in_items.Given as goal

abbrev pub invariant-loop-i : goal.invariant-loop-i
invariant-loop-i l = first_nameless (tables_in l.ends) (item_sites (l.start + l.len * l.i) l.len (l.count - l.i) (drop (l.len * l.i) l.list)) ≡ first_nameless (tables_in l.ends) (item_sites l.start l.len l.count l.list)

use Rattle.std.proofs.Common.{◌≡◌, ◌+◌, max, length}
use Rattle.std.specs.Option.{option_or}
use Rattle.ctf_model.specs.rules.Faults.{first_nameless, record_sites, walk_fault}
use Rattle.ctf_model.specs.format.Section.{records}
use Rattle.ctf_check.specs.EndsView.{tables_in}
use Rattle.ctf_check.specs.Enough.{records_enough}
use Rattle.ctf_check.proofs.walk_result.walk.Given as goal

abbrev pub invariant-loop-record : goal.invariant-loop-record
invariant-loop-record l = record {
  fault : walk_fault l.record-iterator ≡ walk_fault (records l.types);
  count : l.count + length l.record-iterator ≡ length (records l.types);
  name : option_or l.bad_name (first_nameless (tables_in l.ends) (record_sites l.start l.record-iterator)) ≡ first_nameless (tables_in l.ends) (record_sites l.start (records l.types));
  enough : max l.enough (records_enough l.child l.record-iterator) ≡ records_enough l.child (records l.types);
}

use Rattle.std.proofs.Common.{◌≡◌, ◌+◌, length}
use Rattle.ctf_model.specs.rules.Faults.{walk_fault}
use Rattle.ctf_model.specs.format.Section.{records}
use Rattle.test_format.proofs.format.chains.whole_count.Given as goal

abbrev pub invariant-loop-record : goal.invariant-loop-record
invariant-loop-record l = record {
  whole : walk_fault l.record-iterator ≡ walk_fault (records l.types);
  counted : l.count + length l.record-iterator ≡ length (records l.types);
}

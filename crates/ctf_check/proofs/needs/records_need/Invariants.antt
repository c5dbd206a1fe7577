use Rattle.std.proofs.Common.{◌≡◌, max}
use Rattle.ctf_model.specs.format.Section.{records}
use Rattle.ctf_check.specs.Needed.{records_need}
use Rattle.ctf_check.proofs.needs.records_need.Given as goal

abbrev pub invariant-loop-record : goal.invariant-loop-record
invariant-loop-record l = max l.greatest (records_need l.record-iterator) ≡ records_need (records l.types)

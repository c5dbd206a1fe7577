use Rattle.std.proofs.Common.{◌≡◌}
use Rattle.ctf_model.specs.format.Section.{records}
use Rattle.ctf_check.specs.Named.{first_that_misnames}
use Rattle.ctf_check.proofs.references.search_records.Given as goal

abbrev pub invariant-loop-record : goal.invariant-loop-record
invariant-loop-record l = first_that_misnames l.numbers.child l.numbers.count l.record-iterator ≡ first_that_misnames l.numbers.child l.numbers.count (records l.types)

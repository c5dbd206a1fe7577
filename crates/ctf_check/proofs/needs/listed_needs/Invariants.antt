use Rattle.std.proofs.Common.{◌≡◌, max, drop}
use Rattle.ctf_model.specs.rules.Needs.{greatest_in_parent}
use Rattle.ctf_records.specs.ListedTypes.{listed_types}
use Rattle.ctf_records.specs.RecordView.{bytes_of}
use Rattle.ctf_check.proofs.needs.listed_needs.Given as goal

abbrev pub invariant-loop-item : goal.invariant-loop-item
invariant-loop-item l = max l.greatest (greatest_in_parent (drop l.item (listed_types (bytes_of l.term)))) ≡ greatest_in_parent (listed_types (bytes_of l.term))

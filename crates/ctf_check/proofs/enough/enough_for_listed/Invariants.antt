use Rattle.std.proofs.Common.{◌≡◌, max, drop}
use Rattle.ctf_check.specs.Enough.{enough_among}
use Rattle.ctf_records.specs.ListedTypes.{listed_types}
use Rattle.ctf_records.specs.RecordView.{bytes_of}
use Rattle.ctf_check.proofs.enough.enough_for_listed.Given as goal

abbrev pub invariant-loop-item : goal.invariant-loop-item
invariant-loop-item l = max l.enough (enough_among l.child (drop l.item (listed_types (bytes_of l.term)))) ≡ enough_among l.child (listed_types (bytes_of l.term))

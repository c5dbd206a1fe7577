use Rattle.std.proofs.Common.{◌≡◌, drop}
use Rattle.std.specs.List.{list_any}
use Rattle.ctf_model.specs.rules.References.{is_missing as missing}
use Rattle.ctf_records.specs.ListedTypes.{listed_types}
use Rattle.ctf_records.specs.RecordView.{bytes_of}
use Rattle.ctf_check.proofs.references.Numbers.misses_listed.Given as goal

abbrev pub invariant-loop-item : goal.invariant-loop-item
invariant-loop-item l = list_any (missing l.self.child l.self.count) (drop l.item (listed_types (bytes_of l.term))) ≡ list_any (missing l.self.child l.self.count) (listed_types (bytes_of l.term))

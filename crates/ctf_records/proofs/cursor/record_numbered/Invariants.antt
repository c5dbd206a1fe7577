use Rattle.std.proofs.Common.{◌≡◌}
use Rattle.ctf_model.specs.format.Section.{records}
use Rattle.ctf_records.specs.Pieces.{piece_numbered}
use Rattle.ctf_records.proofs.cursor.record_numbered.Given as goal

abbrev pub invariant-loop-record : goal.invariant-loop-record
invariant-loop-record l = piece_numbered l.record-iterator l.index ≡ piece_numbered (records l.types) l.index

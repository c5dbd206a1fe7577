use Rattle.std.proofs.Common.{◌≡◌, ◌++◌, ◌+◌, take, length, vec_capacity, vec_len}
use Rattle.std.specs.List.{flat_map}
use Rattle.ctf_writer.specs.Tables.{names}
use Rattle.ctf_writer.specs.DraftContentView.{written_type}
use Rattle.ctf_writer.proofs.writing.put_records.Given as goal

abbrev pub invariant-loop-t : goal.invariant-loop-t
invariant-loop-t l = record {
  added : l.out.items ≡ l.fn.out.items ++ flat_map (written_type (names l.strings)) (take l.t-index l.types);
  len : vec_len l.out ≡ vec_len l.fn.out + length (flat_map (written_type (names l.strings)) (take l.t-index l.types));
  capacity : vec_capacity l.out ≡ vec_capacity l.fn.out;
}

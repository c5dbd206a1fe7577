use Rattle.std.proofs.Common.{◌≡◌, ◌++◌, ◌+◌, take, length, vec_capacity, vec_len}
use Rattle.std.specs.List.{flat_map}
use Rattle.ctf_model.specs.writing.Written.{label_bytes}
use Rattle.ctf_writer.specs.Tables.{names}
use Rattle.ctf_writer.proofs.labels.put_labels.Given as goal

abbrev pub invariant-loop-i : goal.invariant-loop-i
invariant-loop-i l = record {
  added : l.out.items ≡ l.fn.out.items ++ flat_map (label_bytes (names l.strings)) (take l.i l.labels);
  len : vec_len l.out ≡ vec_len l.fn.out + length (flat_map (label_bytes (names l.strings)) (take l.i l.labels));
  capacity : vec_capacity l.out ≡ vec_capacity l.fn.out;
}

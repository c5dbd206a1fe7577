use Rattle.std.proofs.Common.{◌≡◌, ◌++◌, ◌+◌, ◌≤◌, take, length, vec_capacity, vec_len}
use Rattle.std.specs.List.{flat_map}
use Rattle.ctf_names.specs.Marks.{front}
use Rattle.ctf_names.proofs.sides.put_fronts.Given as goal

abbrev pub invariant-loop-mark : goal.invariant-loop-mark
invariant-loop-mark l = record {
  added : l.out.items ≡ l.fn.out.items ++ flat_map front (take l.mark-index l.marks);
  len : vec_len l.out ≡ vec_len l.fn.out + length (flat_map front (take l.mark-index l.marks));
  capacity : vec_capacity l.out ≡ vec_capacity l.initial.out;
  room : vec_len l.fn.out + length (flat_map front l.marks) ≤ vec_capacity l.initial.out;
}

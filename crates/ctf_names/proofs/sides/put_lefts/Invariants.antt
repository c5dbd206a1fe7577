use Rattle.std.proofs.Common.{◌≡◌, ◌++◌, ◌+◌, ◌-◌, ◌≤◌, take, length, reverse, vec_capacity, vec_len}
use Rattle.std.specs.List.{flat_map}
use Rattle.ctf_names.specs.Marks.{text_before}
use Rattle.ctf_names.proofs.sides.put_lefts.Given as goal

abbrev pub invariant-loop-k : goal.invariant-loop-k
invariant-loop-k l = record {
  added : l.out.items ++ flat_map text_before (reverse (take (length l.marks - l.k) l.marks)) ≡ l.fn.out.items ++ flat_map text_before (reverse l.marks);
  len : vec_len l.out + length (flat_map text_before (reverse (take (length l.marks - l.k) l.marks))) ≡ vec_len l.fn.out + length (flat_map text_before (reverse l.marks));
  capacity : vec_capacity l.out ≡ vec_capacity l.initial.out;
  room : vec_len l.fn.out + length (flat_map text_before (reverse l.marks)) ≤ vec_capacity l.initial.out;
}

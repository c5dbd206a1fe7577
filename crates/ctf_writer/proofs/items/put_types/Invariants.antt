use Rattle.std.proofs.Common.{◌≡◌, ◌++◌, ◌+◌, take, length, vec_capacity, vec_len}
use Rattle.std.specs.List.{flat_map}
use Rattle.ctf_writer.specs.DraftContentView.{written_argument}
use Rattle.ctf_writer.proofs.items.put_types.Given as goal

abbrev pub invariant-loop-tnum : goal.invariant-loop-tnum
invariant-loop-tnum l = record {
  added : l.out.items ≡ l.fn.out.items ++ flat_map written_argument (take l.tnum-index l.types);
  len : vec_len l.out ≡ vec_len l.fn.out + length (flat_map written_argument (take l.tnum-index l.types));
  capacity : vec_capacity l.out ≡ vec_capacity l.fn.out;
}

use Rattle.std.proofs.Common.{◌≡◌, ◌++◌, ◌+◌, take, length, vec_capacity, vec_len}
use Rattle.std.specs.List.{flat_map}
use Rattle.ctf_writer.specs.Tables.{names}
use Rattle.ctf_writer.specs.DraftContentView.{written_enumerator}
use Rattle.ctf_writer.proofs.items.put_enumerators.Given as goal

abbrev pub invariant-loop-enumerator : goal.invariant-loop-enumerator
invariant-loop-enumerator l = record {
  added : l.out.items ≡ l.fn.out.items ++ flat_map (written_enumerator (names l.strings)) (take l.enumerator-index l.enumerators);
  len : vec_len l.out ≡ vec_len l.fn.out + length (flat_map (written_enumerator (names l.strings)) (take l.enumerator-index l.enumerators));
  capacity : vec_capacity l.out ≡ vec_capacity l.fn.out;
}

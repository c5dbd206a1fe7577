use Rattle.std.proofs.Common.{◌≡◌, ◌++◌, ◌+◌, take, length, vec_capacity, vec_len}
use Rattle.std.specs.List.{flat_map}
use Rattle.ctf_writer.specs.Tables.{names}
use Rattle.ctf_writer.specs.DraftContentView.{written_member}
use Rattle.ctf_writer.proofs.items.put_members.Given as goal

abbrev pub invariant-loop-member : goal.invariant-loop-member
invariant-loop-member l = record {
  added : l.out.items ≡ l.fn.out.items ++ flat_map (written_member (names l.strings) l.size) (take l.member-index l.members);
  len : vec_len l.out ≡ vec_len l.fn.out + length (flat_map (written_member (names l.strings) l.size) (take l.member-index l.members));
  capacity : vec_capacity l.out ≡ vec_capacity l.fn.out;
}

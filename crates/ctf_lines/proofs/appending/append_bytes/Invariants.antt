use Rattle.std.proofs.Common.{◌≡◌, ◌++◌, ◌+◌, take, vec_capacity, vec_len}
use Rattle.ctf_lines.proofs.appending.append_bytes.Given as goal

abbrev pub invariant-loop-byte : goal.invariant-loop-byte
invariant-loop-byte l = record {
  added : l.lines.items ≡ l.fn.out.items ++ take l.byte-index l.bytes;
  len : vec_len l.lines ≡ vec_len l.fn.out + l.byte-index;
  capacity : vec_capacity l.lines ≡ vec_capacity l.fn.out;
}

use Rattle.std.proofs.Common.{◌≡◌, ◌++◌, ◌+◌, length, take, vec_capacity, vec_len}
use Rattle.ctf_protocol.specs.lines.Text.{hex_of}
use Rattle.ctf_lines.proofs.escapes.append_hex.Given as goal

abbrev pub invariant-loop-byte : goal.invariant-loop-byte
invariant-loop-byte l = record {
  added : l.out.items ≡ l.fn.out.items ++ hex_of (take l.byte-index l.bytes);
  len : vec_len l.out ≡ vec_len l.fn.out + length (hex_of (take l.byte-index l.bytes));
  capacity : vec_capacity l.out ≡ vec_capacity l.fn.out;
}

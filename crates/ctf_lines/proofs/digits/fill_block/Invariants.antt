use Rattle.std.proofs.Common.{◌≡◌, ◌+◌, ◌*◌, ◌≤◌, length}
use Rattle.std.specs.Prelude.{MatchBool}
use Rattle.ctf_lines.specs.Decoded.{IsDecodedTo, IsNoHex}
use Rattle.ctf_lines.proofs.digits.fill_block.Given as goal

abbrev pub invariant-block : goal.invariant-block
invariant-block l = record {
  decoded : IsDecodedTo l.digits l.initial.bytes l.at → MatchBool l.all (IsDecodedTo l.digits l.bytes (l.at + l.k)) (IsNoHex l.digits);
  len : length l.digits ≡ 2 * length l.bytes;
  room : l.at + 64 ≤ length l.bytes;
}

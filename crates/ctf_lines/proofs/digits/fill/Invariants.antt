use Rattle.std.proofs.Common.{◌≡◌, ◌-◌, ◌*◌, ◌≤◌, length}
use Rattle.std.specs.Prelude.{MatchBool}
use Rattle.ctf_lines.specs.Decoded.{IsDecodedTo, IsNoHex}
use Rattle.ctf_lines.proofs.digits.fill.Given as goal

abbrev pub invariant-wide : goal.invariant-wide
invariant-wide l = record {
  decoded : IsDecodedTo l.digits l.bytes l.at;
  len : length l.digits ≡ 2 * length l.bytes;
  within : l.at ≤ length l.bytes;
}

abbrev pub decreases-wide : goal.decreases-wide
decreases-wide l = length l.bytes - l.at

abbrev pub invariant-rest : goal.invariant-rest
invariant-rest l = record {
  decoded : MatchBool l.all (IsDecodedTo l.digits l.bytes l.last) (IsNoHex l.digits);
  len : length l.digits ≡ 2 * length l.bytes;
}

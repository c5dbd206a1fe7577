use Rattle.std.proofs.Common.{◌≡◌, ◌<◌, ◌^◌, take}
use Rattle.std.specs.List.{fold}
use Rattle.ctf_order.specs.Names.{mix}
use Rattle.ctf_order.proofs.comparing.bytes_hash.Given as goal

abbrev pub invariant-loop-byte : goal.invariant-loop-byte
invariant-loop-byte l = record {
  below : l.hash < 2 ^ 32;
  is : l.hash ≡ fold mix 0 (take l.byte-index l.name);
}

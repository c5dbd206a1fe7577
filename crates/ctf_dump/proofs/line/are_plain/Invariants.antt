use Rattle.std.proofs.Common.{◌≡◌, true, take}
use Rattle.std.specs.List.{flat_map}
use Rattle.ctf_model.specs.dumps.Dump.{escape}
use Rattle.ctf_dump.proofs.line.are_plain.Given as goal

abbrev pub invariant-loop-byte : goal.invariant-loop-byte
invariant-loop-byte l = l.plain ≡ true → flat_map escape (take l.byte-index l.name) ≡ take l.byte-index l.name

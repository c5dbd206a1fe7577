use Rattle.std.proofs.Common.{◌≡◌, ◌++◌, take}
use Rattle.std.specs.List.{flat_map}
use Rattle.ctf_model.specs.dumps.Dump.{escape}
use Rattle.ctf_dump.proofs.line.Line.push_name.Given as goal

abbrev pub invariant-loop-byte : goal.invariant-loop-byte
invariant-loop-byte l = l.self ≡ l.fn.self ++ flat_map escape (take l.byte-index l.name)

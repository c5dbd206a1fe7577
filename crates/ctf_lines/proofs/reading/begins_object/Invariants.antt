use Rattle.std.proofs.Common.{◌≡◌, drop}
use Rattle.ctf_lines.specs.Numbered.{begins_object}
use Rattle.ctf_lines.proofs.reading.begins_object.Given as goal

abbrev pub invariant-loop-byte : goal.invariant-loop-byte
invariant-loop-byte l = begins_object l.text ≡ begins_object (drop l.byte-index l.text)

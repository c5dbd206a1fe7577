use Rattle.std.proofs.Common.{◌≡◌, take}
use Rattle.ctf_protocol.specs.lines.Text.{text_of}
use Rattle.ctf_lines.proofs.escapes.are_plain.Given as goal

abbrev pub invariant-loop-byte : goal.invariant-loop-byte
invariant-loop-byte l = text_of (take l.byte-index l.text) ≡ take l.byte-index l.text

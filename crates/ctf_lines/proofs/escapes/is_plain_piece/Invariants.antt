use Rattle.std.proofs.Common.{◌≡◌, true, take}
use Rattle.ctf_protocol.specs.lines.Text.{text_of}
use Rattle.ctf_lines.proofs.escapes.is_plain_piece.Given as goal

abbrev pub invariant-loop-byte : goal.invariant-loop-byte
invariant-loop-byte l = l.plain ≡ true → text_of (take l.byte-index l.piece) ≡ take l.byte-index l.piece

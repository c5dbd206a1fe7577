use Rattle.std.proofs.Common.{take}
use Rattle.ctf_protocol.specs.lines.Text.{text_of}
use Rattle.ctf_lines.proofs.escapes.put_bytes.Given as goal

abbrev pub invariant-loop-byte : goal.invariant-loop-byte
invariant-loop-byte g l = g.P.TextSink.Took l.fn.sink (text_of (take l.byte-index l.bytes)) l.sink

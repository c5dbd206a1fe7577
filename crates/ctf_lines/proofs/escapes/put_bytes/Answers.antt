use Rattle.ctf_protocol.specs.lines.Text.{text_of_byte}
use Rattle.ctf_lines.proofs.Walks.{as_text, walked, all_walked}
use Rattle.ctf_lines.proofs.escapes.put_bytes.Goals as goal

pub loop-byte-preserved : goal.loop-byte-preserved
loop-byte-preserved g c =
    let more = g.met.P.TextSink.joined _ _ _ _ _ c.loop-byte.invariant c.put_byte.ensures in
    as_text (g.P.TextSink.Took) (walked text_of_byte c.args.bytes.now c.loop-byte.byte-index c.loop-byte-test.true) more

pub returns : goal.returns
returns g c = as_text (g.P.TextSink.Took) (all_walked text_of_byte c.args.bytes.now c.loop-byte.byte-index c.loop-byte-test.false) c.loop-byte.invariant

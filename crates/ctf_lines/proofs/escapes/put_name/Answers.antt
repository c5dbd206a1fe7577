use Rattle.std.proofs.Common.{◌≡◌, ◌+◌, ◌-◌, ap, ◌∙◌, arith, drop, take}
use Rattle.ctf_protocol.specs.lines.Text.{text_of_byte, text_of}
use Rattle.ctf_lines.proofs.Walks.{as_text, left_out, all_walked, more_walked}
use Rattle.ctf_lines.proofs.escapes.put_name.Goals as goal

pub returns-then-is_full : goal.returns-then-is_full
returns-then-is_full g c =
    let full = c.is_full.ensures c.if-is_full.true (text_of (drop c.loop-at.at c.args.name.now)) in
    let all = g.met.P.TextSink.joined _ _ _ _ _ c.loop-at.invariant.put full in
    as_text (g.P.TextSink.Took) (left_out text_of_byte c.args.name.now c.loop-at.at) all

pub loop-at-preserved : goal.loop-at-preserved
loop-at-preserved g c =
    let more = g.met.P.TextSink.joined _ _ _ _ _ c.loop-at.invariant.put c.put_piece.ensures in
    let end : c.loop-at.at + (c.min-end.result - c.loop-at.at) ≡ c.min-end.result = omega (arith, c.min-end.ensures, c.loop-at-test.true) in
    record {
      inside = omega (arith, c.min-end.ensures);
      put = as_text (g.P.TextSink.Took) (more_walked text_of_byte c.args.name.now c.loop-at.at (c.min-end.result - c.loop-at.at) ∙ ap (λ n. text_of (take n c.args.name.now)) end) more;
    }

pub returns : goal.returns
returns g c = as_text (g.P.TextSink.Took) (all_walked text_of_byte c.args.name.now c.loop-at.at c.loop-at-test.false) c.loop-at.invariant.put

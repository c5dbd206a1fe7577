use Rattle.std.proofs.Common.{arith, ap, sym}
use Rattle.std.proofs.lemmas.List.{take_all}
use Rattle.ctf_model.specs.dumps.Texts.{with_commas}
use Rattle.ctf_lines.proofs.Separated.{first-next, first-rest}
use Rattle.ctf_lines.proofs.Walks.{as_text}
use Rattle.ctf_lines.proofs.series.put_series.Goals as goal

pub returns-then-is_full : goal.returns-then-is_full
returns-then-is_full g c =
    let rest = first-rest (g.S.Series.texts c.args.series.now) c.loop-index.index in
    let full = c.is_full.ensures c.if-is_full.true rest.0 in
    as_text (g.P.TextSink.Took) rest.1 (g.met.P.TextSink.joined _ _ _ _ _ c.loop-index.invariant full)

pub loop-index-preserved : goal.loop-index-preserved
loop-index-preserved g c =
    let texts = g.S.Series.texts c.args.series.now in
    let k = c.loop-index.index in
    let count = c.count-index-end.ensures in
    let test = c.loop-index-test.true in
    let join = g.met.P.TextSink.joined in
    let more = join _ _ _ _ _ c.loop-index.invariant (join _ _ _ _ _ c.put_comma.ensures c.put_text.ensures) in
    as_text (g.P.TextSink.Took) (sym (first-next texts k (omega (arith, count, test)))) more

pub returns : goal.returns
returns g c =
    let texts = g.S.Series.texts c.args.series.now in
    let count = c.count-index-end.ensures in
    let test = c.loop-index-test.false in
    as_text (g.P.TextSink.Took) (ap with_commas (take_all c.loop-index.index texts (omega (arith, count, test)))) c.loop-index.invariant

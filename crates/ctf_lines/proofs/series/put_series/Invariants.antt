use Rattle.std.proofs.Common.{take}
use Rattle.ctf_model.specs.dumps.Texts.{with_commas}
use Rattle.ctf_lines.proofs.series.put_series.Given as goal

abbrev pub invariant-loop-index : goal.invariant-loop-index
invariant-loop-index g l = g.P.TextSink.Took l.fn.sink (with_commas (take l.index (g.S.Series.texts l.series))) l.sink

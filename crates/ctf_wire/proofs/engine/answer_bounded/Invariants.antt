use Rattle.std.proofs.Common.{◌≡◌, ℕ, ◌+◌, ◌++◌, List, false}
use Rattle.std.specs.Io.KnownBytes.{Consumes}
use Rattle.ctf_wire.specs.Standing.{Stands}
use Rattle.ctf_wire.proofs.engine.answer_bounded.Given as goal

abbrev pub invariant-loop-turn : goal.invariant-loop-turn
invariant-loop-turn g l = record {
  read : List ℕ;
  pulled : (g.S.Source.pulled l.source).read ≡ (g.S.Source.pulled l.fn.source).read ++ read;
  consumed : Consumes (g.S.Source.pulled l.fn.source).remaining (g.S.Source.pulled l.source).remaining read;
  stands : Stands g.M.Machine.Step l.fn.machine (g.K.Sink.pushed l.fn.sink) read l.machine l.run (g.K.Sink.pushed l.sink);
  counted : (g.S.Source.pulled l.source).pulls ≡ (g.S.Source.pulled l.fn.source).pulls + l.turn;
  unended : (g.S.Source.pulled l.source).ended ≡ false;
  sound : (g.S.Source.pulled l.source).failed ≡ false;
  well : (g.K.Sink.pushed l.sink).failed ≡ false;
}

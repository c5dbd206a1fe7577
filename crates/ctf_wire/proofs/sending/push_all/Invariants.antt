use Rattle.std.proofs.Common.{◌≤◌, ◌-◌, length, take}
use Rattle.ctf_wire.specs.Waiting.{TakesAll}
use Rattle.ctf_wire.proofs.sending.push_all.Given as goal

abbrev pub invariant-loop-at : goal.invariant-loop-at
invariant-loop-at g l = record {
  within : l.at ≤ length l.bytes;
  takes : TakesAll (g.K.Sink.pushed l.fn.sink) (take l.at l.bytes) (g.K.Sink.pushed l.sink);
}

abbrev pub decreases-loop-at : goal.decreases-loop-at
decreases-loop-at g l = length l.bytes - l.at

use Rattle.std.proofs.Common.{◌≡◌, ℕ, ◌≤◌, ◌++◌, List, length, true, vec_capacity}
use Rattle.ctf_wire.specs.Gathering.{Feeds}
use Rattle.ctf_wire.proofs.feeding.Intake.feed.Given as goal

abbrev pub invariant-loop-piece : goal.invariant-loop-piece
invariant-loop-piece g l = record {
  fed : (done : List ℕ) × (l.bytes ≡ done ++ l.rest) × Feeds g.M.Machine.Step l.fn.machine l.fn.self.pending l.fn.self.batch (g.K.Sink.pushed l.fn.sink) done true l.machine l.self.pending l.self.batch (g.K.Sink.pushed l.sink);
  grows : vec_capacity l.fn.self.batch.bytes ≤ vec_capacity l.self.batch.bytes;
}

abbrev pub decreases-loop-piece : goal.decreases-loop-piece
decreases-loop-piece g l = length l.rest

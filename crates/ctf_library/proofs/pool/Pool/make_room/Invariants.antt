use Rattle.std.proofs.Common.{◌≡◌, ◌≤◌, ◌+◌, length}
use Rattle.ctf_library.specs.Pooling.{with_room}
use Rattle.ctf_library.proofs.pool.Pool.make_room.Given as goal

abbrev pub invariant-loop-gone : goal.invariant-loop-gone
invariant-loop-gone l = record {
  same : with_room l.bytes l.self ≡ with_room l.bytes l.fn.self;
  fewer : length l.self + l._gone ≤ l.most;
}

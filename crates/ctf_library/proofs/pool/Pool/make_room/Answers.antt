use Rattle.std.proofs.Common.{sym, ◌∙◌}
use Rattle.ctf_library.proofs.Pooled.{roomy}
use Rattle.ctf_library.proofs.pool.Pool.make_room.Goals as goal

pub returns-then-has_room : goal.returns-then-has_room
returns-then-has_room c = sym (roomy c.args.bytes c.loop-gone.self (sym c.has_room.ensures ∙ c.if-has_room.true)) ∙ c.loop-gone.invariant.same

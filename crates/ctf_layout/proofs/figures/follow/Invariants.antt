use Rattle.std.proofs.Common.{◌≡◌}
use Rattle.ctf_space.specs.SpaceView.{space_of}
use Rattle.ctf_layout.proofs.Follow.{left}
use Rattle.ctf_layout.proofs.figures.follow.Given as goal

abbrev pub invariant-loop-step : goal.invariant-loop-step
invariant-loop-step l = left (space_of l.space).own 0 l.fn.number.0 ≡ left (space_of l.space).own l._step l.at.0

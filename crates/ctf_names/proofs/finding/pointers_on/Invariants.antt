use Rattle.std.proofs.Common.{◌≡◌, ◌-◌, Ok}
use Rattle.ctf_model.specs.names.Lookups.{pointers_on as pointed_of}
use Rattle.ctf_space.specs.SpaceView.{space_of}
use Rattle.ctf_names.proofs.finding.pointers_on.Given as goal

abbrev pub invariant-loop-star : goal.invariant-loop-star
invariant-loop-star l = pointed_of (space_of l.space) l.count (Ok l.fn.from.0) ≡ pointed_of (space_of l.space) (l.count - l._star) (Ok l.at.0)

use Rattle.std.proofs.Common.{◌≡◌, drop}
use Rattle.ctf_model.specs.figures.Paths.{path, path_from}
use Rattle.ctf_space.specs.SpaceView.{space_of}
use Rattle.ctf_layout.specs.Reached.{spot}
use Rattle.ctf_layout.proofs.paths.follow_names.Given as goal

abbrev pub invariant-loop-step : goal.invariant-loop-step
invariant-loop-step g l = path (space_of l.space) l.fn.number.0 (g.N.PathNames.names_of l.names) ≡ path_from (space_of l.space) l.step (drop l.step (g.N.PathNames.names_of l.names)) (spot l.at)

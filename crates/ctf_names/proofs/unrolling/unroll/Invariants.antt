use Rattle.std.proofs.Common.{◌≡◌, ◌-◌, vec_len}
use Rattle.ctf_model.specs.names.TypeNames.{declaration_within, longest_text}
use Rattle.ctf_names.specs.Unrolling.{around_all}
use Rattle.ctf_names.proofs.unrolling.unroll.Given as goal
use Rattle.ctf_space.specs.SpaceView.{space_of}

abbrev pub invariant-loop-step : goal.invariant-loop-step
invariant-loop-step l = record {
  unrolled : declaration_within (space_of l.space) longest_text l.fn.number.0 ≡ around_all l.layers.items (declaration_within (space_of l.space) (longest_text - l._step) l.at.0);
  few : vec_len l.layers ≡ l._step;
}

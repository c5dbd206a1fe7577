use Rattle.std.proofs.Common.{ap, ◌∙◌}
use Rattle.ctf_check.specs.TypedView.{term_in}
use Rattle.ctf_model.specs.spaces.Space.{space_type}
use Rattle.ctf_c.proofs.Shapes.{shape_there}
use Rattle.ctf_c.proofs.symbols.shape.Goals as goal

pub returns : goal.returns
returns c = shape_there (term_in c.in_ok-found.found) _ _ (c.in_ok-found.ensures ∙ ap (λ s. space_type s c.args.t.0) c.space.ensures.space) c.shape.ensures

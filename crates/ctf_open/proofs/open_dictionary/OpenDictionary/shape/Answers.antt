use Rattle.std.proofs.Common.{ap, ◌∙◌}
use Rattle.ctf_model.specs.opened.Questions.{shape_of}
use Rattle.ctf_check.specs.FactsView.{shape_view}
use Rattle.ctf_check.specs.TypedView.{term_in}
use Rattle.ctf_model.specs.spaces.Space.{space_type}
use Rattle.ctf_open.proofs.ByShape.{shape_known}
use Rattle.ctf_open.proofs.open_dictionary.OpenDictionary.shape.Goals as goal

pub returns : goal.returns
returns c =
    shape_known (term_in c.in_ok-found.found) (shape_view c.shape.result) c.shape.ensures
    ∙ (ap (λ r. shape_of r) c.in_ok-found.ensures ∙ ap (λ s. shape_of (space_type s c.args.t.0)) c.space.ensures.space)

use Rattle.std.proofs.Common.{ap, ◌∙◌}
use Rattle.ctf_model.specs.opened.Questions.{kind_answered, on_shape, shape_of}
use Rattle.ctf_check.specs.TypedView.{term_in}
use Rattle.ctf_model.specs.spaces.Space.{space_type}
use Rattle.ctf_open.proofs.ByShape.{kind_known}
use Rattle.ctf_open.proofs.open_dictionary.OpenDictionary.kind.Goals as goal

pub returns : goal.returns
returns c =
    kind_known (term_in c.in_ok-found.found) c.kind.result c.kind.ensures
    ∙ (ap (λ r. on_shape kind_answered (shape_of r)) c.in_ok-found.ensures ∙ ap (λ s. on_shape kind_answered (shape_of (space_type s c.args.t.0))) c.space.ensures.space)

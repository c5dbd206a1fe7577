use Rattle.std.proofs.Common.{ap, ◌∙◌, bytes_eq}
use Rattle.ctf_check.specs.TypedView.{term_in}
use Rattle.ctf_c.proofs.names.Asked.{said_by}
use Rattle.ctf_c.specs.names.Firsts.{named_answered}
use Rattle.ctf_model.specs.format.Term.{Enumerator}
use Rattle.ctf_model.specs.opened.Questions.{on_shape, shape_of}
use Rattle.ctf_model.specs.spaces.Space.{space_type}
use Rattle.ctf_c.proofs.enumerators.of_name.Goals as goal

pub returns : goal.returns
returns c =
    let name = c.args.name.now in
    said_by (λ (e : Enumerator). bytes_eq name e.name) (term_in c.in_ok-found.found) _ c.with_name.ensures
    ∙ (ap (λ r. on_shape (named_answered name) (shape_of r)) c.in_ok-found.ensures ∙ ap (λ s. on_shape (named_answered name) (shape_of (space_type s c.args.t.0))) c.space.ensures.space)

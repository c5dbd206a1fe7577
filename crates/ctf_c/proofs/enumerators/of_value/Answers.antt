use Rattle.std.proofs.Common.{◌≡◌, Some, ap, subst, ◌∙◌, w32}
use Rattle.std.proofs.Math.Facts.{to_z-of_z}
use Rattle.std.specs.Option.{option_map}
use Rattle.std.specs.Ordering.{int_eq}
use Rattle.std.specs.Result.{result_map_both}
use Rattle.ctf_check.specs.TypedView.{term_in}
use Rattle.ctf_c.proofs.names.Asked.{said_by}
use Rattle.ctf_c.specs.names.Firsts.{valued_answered}
use Rattle.ctf_model.specs.format.Shown.{shape}
use Rattle.ctf_model.specs.format.Term.{Enumerator, Term}
use Rattle.ctf_model.specs.opened.Questions.{on_shape, shape_of}
use Rattle.ctf_model.specs.spaces.Space.{space_type}
use Rattle.ctf_views.specs.ItemsView.{enumerator as enumerator_view}
use Rattle.ctf_c.proofs.enumerators.of_value.Goals as goal

pub returns : goal.returns
returns c =
    let value = c.args.value in
    let same = to_z-of_z {w = w32} {z = value} c.ranges.value in
    let said = subst (λ v. option_map (λ (x : Term). valued_answered v (shape x.body)) (term_in c.in_ok-found.found) ≡ Some (result_map_both enumerator_view (λ f. f) c.with_value.result)) same c.with_value.ensures in
    said_by (λ (e : Enumerator). int_eq e.value value) (term_in c.in_ok-found.found) _ said
    ∙ (ap (λ r. on_shape (valued_answered value) (shape_of r)) c.in_ok-found.ensures ∙ ap (λ s. on_shape (valued_answered value) (shape_of (space_type s c.args.t.0))) c.space.ensures.space)

use Rattle.std.proofs.Common.{◌≡◌, ℕ, refl, sym, ap, ◌∙◌}
use Rattle.std.proofs.lemmas.Result.{err_from_is_err_and}
use Rattle.std.specs.Prelude.{Err}
use Rattle.ctf_model.specs.spaces.TypeNumbers.{no_parent}
use Rattle.ctf_model.specs.spaces.TypePlaces.{place}
use Rattle.ctf_model.specs.declared.numbers.Place.TheVariants.{Parents}
use Rattle.ctf_space.specs.SpaceView.{space_alone, space_of}
use Rattle.ctf_layout.specs.Following.{onward}
use Rattle.ctf_layout.proofs.Follow.{onward_out, onward_stays, resolved_alone}
use Rattle.ctf_layout.proofs.figures.follow_parents.Goals as goal

pub returns-in-Parents : goal.returns-in-Parents
returns-in-Parents c =
    let s = space_of c.args.parent.now in
    let here = sym (rw c.child.ensures at c.place.ensures) ∙ c.in-Parents.is in
    rw c.placeless.ensures (sym (resolved_alone (space_alone s.own s.model) refl c.args.number.0 ∙ ap (onward (λ t. Err no_parent) s.own) (sym (rw c.in_ok-at.was at c.follow.ensures)) ∙ onward_out (λ t. Err no_parent) s.own c.in_ok-at.at.0 c.in-Parents.field-0 here))

pub returns-in_default : goal.returns-in_default
returns-in_default c =
    let s = space_of c.args.parent.now in
    let not_parents : (i : ℕ) → place s.own.child c.in_ok-at.at.0 ≡ Parents i → ⊥ = λ i at. c.in_default.not-Parents i ((rw c.child.ensures at c.place.ensures) ∙ at) in
    sym (resolved_alone (space_alone s.own s.model) refl c.args.number.0 ∙ ap (onward (λ t. Err no_parent) s.own) (sym (rw c.in_ok-at.was at c.follow.ensures)) ∙ onward_stays (λ t. Err no_parent) s.own c.in_ok-at.at.0 not_parents)

pub returns-in_err-at : goal.returns-in_err-at
returns-in_err-at c =
    let p = err_from_is_err_and c.from_residual.result c.from_residual.ensures.1 in
    let s = space_of c.args.parent.now in
    rw (p.1, p.2) (sym (resolved_alone (space_alone s.own s.model) refl c.args.number.0 ∙ ap (onward (λ t. Err no_parent) s.own) (sym (rw c.in_err-at.was at c.follow.ensures))))

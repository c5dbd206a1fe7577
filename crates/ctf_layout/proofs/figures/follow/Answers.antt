use Rattle.std.proofs.Common.{◌≡◌, ℕ, ◌+◌, sym, ap, ◌∙◌, arith}
use Rattle.std.specs.Prelude.{option_map}
use Rattle.std.proofs.lemmas.Result.{err_from_is_err_and}
use Rattle.ctf_check.specs.FactsView.{shape_view}
use Rattle.ctf_check.specs.TypedView.{term_in}
use Rattle.ctf_model.specs.figures.Figures.{of_found, resolving}
use Rattle.ctf_model.specs.spaces.TypePlaces.{place}
use Rattle.ctf_model.specs.declared.numbers.Place.TheVariants.{Parents}
use Rattle.ctf_space.specs.SpaceView.{space_of}
use Rattle.ctf_layout.proofs.Follow.{by_renamed, found_shape, left, left_all, left_found, left_none, left_out, left_parents}
use Rattle.ctf_layout.proofs.figures.follow.Goals as goal

pub returns-then-at-eq0 : goal.returns-then-at-eq0
returns-then-at-eq0 c =
    let d = (space_of c.args.space.now).own in
    sym (left_all d c.args.number.0 ∙ c.loop-step.invariant ∙ left_none d c.loop-step._step c.loop-step.at.0 (omega arith) c.if-at-eq0.true)

pub returns-in-Parents : goal.returns-in-Parents
returns-in-Parents c =
    let s = space_of c.args.space.now in
    let here = sym (rw c.child.ensures at c.place.ensures) ∙ c.in-Parents.is in
    sym (left_all s.own c.args.number.0 ∙ c.loop-step.invariant ∙ left_parents s.own c.loop-step._step c.loop-step.at.0 c.in-Parents.field-0 (omega arith) here)

pub returns-in_err-found : goal.returns-in_err-found
returns-in_err-found c =
    let p = err_from_is_err_and c.from_residual.result c.from_residual.ensures.1 in
    let s = space_of c.args.space.now in
    let not_parents : (i : ℕ) → place s.own.child c.loop-step.at.0 ≡ Parents i → ⊥ = λ i at. c.in_default.not-Parents i ((rw c.child.ensures at c.place.ensures) ∙ at) in
    let next = left_found s c.loop-step._step c.loop-step.at.0 (omega arith) (omega arith) not_parents in
    let refused = sym (rw c.in_err-found.was at c.term.ensures) in
    rw (p.1, p.2) (sym (left_all s.own c.args.number.0 ∙ c.loop-step.invariant ∙ next ∙ ap (of_found resolving (left s.own (c.loop-step._step + 1)) c.loop-step.at.0) refused))

pub returns-in-None : goal.returns-in-None
returns-in-None c =
    let s = space_of c.args.space.now in
    let not_parents : (i : ℕ) → place s.own.child c.loop-step.at.0 ≡ Parents i → ⊥ = λ i at. c.in_default.not-Parents i ((rw c.child.ensures at c.place.ensures) ∙ at) in
    let next = left_found s c.loop-step._step c.loop-step.at.0 (omega arith) (omega arith) not_parents in
    let f = left s.own (c.loop-step._step + 1) in
    let found = found_shape f c.loop-step.at.0 (term_in c.in_ok-found.found) (shape_view c.shape.result) c.shape.ensures in
    let here = ap (of_found resolving f c.loop-step.at.0) (sym (rw c.in_ok-found.was at c.term.ensures)) in
    sym (left_all s.own c.args.number.0 ∙ c.loop-step.invariant ∙ next ∙ here ∙ found ∙ ap (by_renamed f c.loop-step.at.0) (sym c.alias_target.ensures ∙ ap (option_map (λ t. t.0)) c.in-None.is))

pub loop-step-preserved : goal.loop-step-preserved
loop-step-preserved c =
    let s = space_of c.args.space.now in
    let not_parents : (i : ℕ) → place s.own.child c.loop-step.at.0 ≡ Parents i → ⊥ = λ i at. c.in_default.not-Parents i ((rw c.child.ensures at c.place.ensures) ∙ at) in
    let next = left_found s c.loop-step._step c.loop-step.at.0 (omega arith) (omega arith) not_parents in
    let f = left s.own (c.loop-step._step + 1) in
    let found = found_shape f c.loop-step.at.0 (term_in c.in_ok-found.found) (shape_view c.shape.result) c.shape.ensures in
    let here = ap (of_found resolving f c.loop-step.at.0) (sym (rw c.in_ok-found.was at c.term.ensures)) in
    c.loop-step.invariant ∙ next ∙ here ∙ found ∙ ap (by_renamed f c.loop-step.at.0) (sym c.alias_target.ensures ∙ ap (option_map (λ t. t.0)) c.in-Some.is)

pub returns : goal.returns
returns c =
    let d = (space_of c.args.space.now).own in
    rw c.placeless.ensures (sym (left_all d c.args.number.0 ∙ c.loop-step.invariant ∙ left_out d c.loop-step._step c.loop-step.at.0 (omega arith)))

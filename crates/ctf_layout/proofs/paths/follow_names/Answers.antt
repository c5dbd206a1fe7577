use Rattle.std.proofs.Common.{◌+◌, drop, sym, ap, ◌∙◌, arith}
use Rattle.std.proofs.lemmas.Result.{err_from_is_err_and}
use Rattle.ctf_model.specs.figures.Paths.{and_on, path_from}
use Rattle.ctf_space.specs.SpaceView.{space_of}
use Rattle.ctf_layout.specs.Reached.{spot}
use Rattle.ctf_layout.proofs.PathSteps.{path_end, path_next}
use Rattle.ctf_layout.proofs.paths.follow_names.Goals as goal

pub returns-in_err-at : goal.returns-in_err-at
returns-in_err-at g c =
    let p = err_from_is_err_and c.from_residual.result c.from_residual.ensures.1 in
    let s = space_of c.args.space.now in
    let names = g.N.PathNames.names_of c.args.names.now in
    let next = path_next s c.loop-step.step names c.name.result.now (spot c.loop-step.at) (grind arith) c.name.ensures in
    let refused = sym (rw c.in_err-at.was at c.step_to.ensures) in
    rw (p.1, p.2) (sym (c.loop-step.invariant ∙ next ∙ ap (λ r. and_on r (path_from s (c.loop-step.step + 1) (drop (c.loop-step.step + 1) names))) refused))

pub loop-step-preserved : goal.loop-step-preserved
loop-step-preserved g c =
    let s = space_of c.args.space.now in
    let names = g.N.PathNames.names_of c.args.names.now in
    let next = path_next s c.loop-step.step names c.name.result.now (spot c.loop-step.at) (grind arith) c.name.ensures in
    let granted = sym (rw c.in_ok-at.was at c.step_to.ensures) in
    c.loop-step.invariant ∙ next ∙ ap (λ r. and_on r (path_from s (c.loop-step.step + 1) (drop (c.loop-step.step + 1) names))) granted

pub returns : goal.returns
returns g c =
    let s = space_of c.args.space.now in
    sym (c.loop-step.invariant ∙ path_end s c.loop-step.step (g.N.PathNames.names_of c.args.names.now) (spot c.loop-step.at) (grind arith))

use Rattle.std.proofs.Common.{◌+◌, ◌-◌, sym, ap, ◌∙◌, arith}
use Rattle.std.specs.Result.{result_map_both}
use Rattle.std.proofs.lemmas.Result.{err_from_is_err_and}
use Rattle.ctf_model.specs.names.Lookups.{pointers_on as pointed_of}
use Rattle.ctf_space.specs.SpaceView.{space_of}
use Rattle.ctf_names.proofs.Steps.{at_end, fault_stays, one_further}
use Rattle.ctf_names.proofs.finding.pointers_on.Goals as goal

pub loop-star-preserved : goal.loop-star-preserved
loop-star-preserved c =
    let s = space_of c.args.space.now in
    let says = sym c.pointer_to.ensures ∙ ap (result_map_both (λ t. t.0) (λ f. f)) c.in_ok-at.was in
    c.loop-star.invariant ∙ one_further s c.args.count c.loop-star._star c.loop-star.at.0 c.loop-star-test.true ∙ ap (pointed_of s (c.args.count - (c.loop-star._star + 1))) says

pub returns-in_err-at : goal.returns-in_err-at
returns-in_err-at c =
    let p = err_from_is_err_and c.from_residual.result c.from_residual.ensures.1 in
    let s = space_of c.args.space.now in
    let says = sym c.pointer_to.ensures ∙ ap (result_map_both (λ t. t.0) (λ f. f)) c.in_err-at.was in
    rw (p.1, p.2) (sym (c.loop-star.invariant ∙ one_further s c.args.count c.loop-star._star c.loop-star.at.0 c.loop-star-test.true ∙ ap (pointed_of s (c.args.count - (c.loop-star._star + 1))) says ∙ fault_stays s (c.args.count - (c.loop-star._star + 1)) c.in_err-at.field-0.0))

pub returns : goal.returns
returns c =
    let s = space_of c.args.space.now in
    sym (c.loop-star.invariant ∙ at_end s c.args.count c.loop-star._star c.loop-star.at.0 (omega (arith, c.loop-star-test.false)))

use Rattle.std.proofs.Common.{◌-◌, ◌+◌, arith, inr, sym, ◌∙◌, ap}
use Rattle.std.specs.Prelude.{option_map}
use Rattle.std.proofs.lemmas.Grind.{common_steps}
use Rattle.std.proofs.lemmas.Result.{err_from_is_err_and}
use Rattle.ctf_check.specs.FactsView.{shape_view}
use Rattle.ctf_check.specs.TypedView.{term_in}
use Rattle.ctf_model.specs.names.TypeNames.{declaration_of, declaration_within, longest_text}
use Rattle.ctf_records.specs.RecordView.{tag_of}
use Rattle.ctf_space.specs.SpaceView.{space_of}
use Rattle.ctf_names.proofs.FoundInside.{layer_found, name_found}
use Rattle.ctf_names.proofs.Unrolls.{at_void, at_type, no_steps, ended, refused, goes_on}
use Rattle.ctf_names.proofs.unrolling.unroll.Goals as goal

pub returns-then-at-eq0-clause-ok : goal.returns-then-at-eq0-clause-ok
returns-then-at-eq0-clause-ok c =
    rw c.void.ensures (ended _ _ c.loop-step.layers.items _ c.loop-step.invariant.unrolled (at_void (space_of c.args.space.now) (longest_text - c.loop-step._step) c.loop-step.at.0 (omega arith) c.if-at-eq0.true))

pub returns-in_err-found-clause-err : goal.returns-in_err-found-clause-err
returns-in_err-found-clause-err c =
    let p = err_from_is_err_and c.from_residual.result c.from_residual.ensures.1 in
    let s = space_of c.args.space.now in
    let f = declaration_within s (longest_text - (c.loop-step._step + 1)) in
    let here = at_type s (longest_text - c.loop-step._step) (longest_text - (c.loop-step._step + 1)) c.loop-step.at.0 (omega arith) c.if-at-eq0.false ∙ ap (declaration_of f) (sym (rw c.in_err-found.was at c.term.ensures)) in
    rw (p.1, p.2) (inr (refused _ _ c.loop-step.layers.items _ c.loop-step.invariant.unrolled here))

pub returns-in-Name-clause-ok : goal.returns-in-Name-clause-ok
returns-in-Name-clause-ok c =
    let s = space_of c.args.space.now in
    let f = declaration_within s (longest_text - (c.loop-step._step + 1)) in
    let found = name_found f (term_in c.in_ok-found.found) (shape_view c.shape.result) (option_map tag_of c.in-Name.tag) c.name.result.now c.shape.ensures c.name.ensures (sym (rw c.in-Name.is at c.found_inside.ensures)) in
    let here = at_type s (longest_text - c.loop-step._step) (longest_text - (c.loop-step._step + 1)) c.loop-step.at.0 (omega arith) c.if-at-eq0.false ∙ ap (declaration_of f) (sym (rw c.in_ok-found.was at c.term.ensures)) ∙ found in
    rw c.or_anon-name.ensures (ended _ _ c.loop-step.layers.items _ c.loop-step.invariant.unrolled here)

pub loop-step-preserved : goal.loop-step-preserved
loop-step-preserved c = record {
  unrolled =
      let s = space_of c.args.space.now in
      let f = declaration_within s (longest_text - (c.loop-step._step + 1)) in
      let found = layer_found f (term_in c.in_ok-found.found) (shape_view c.shape.result) c.in-Layer.layer c.in-Layer.next.0 c.shape.ensures (sym (rw c.in-Layer.is at c.found_inside.ensures)) in
      let here = at_type s (longest_text - c.loop-step._step) (longest_text - (c.loop-step._step + 1)) c.loop-step.at.0 (omega arith) c.if-at-eq0.false ∙ ap (declaration_of f) (sym (rw c.in_ok-found.was at c.term.ensures)) ∙ found in
      goes_on _ _ _ c.loop-step.layers.items _ c.in-Layer.layer c.loop-step.invariant.unrolled here (rw (c.is_err.ensures.negation, c.if-is_err.false) at c.push.ensures.items);
  few = grind (arith, common_steps);
}

pub returns-clause-err : goal.returns-clause-err
returns-clause-err c =
    let none = no_steps (space_of c.args.space.now) (longest_text - c.loop-step._step) c.loop-step.at.0 (omega arith) in
    rw c.placeless-2.ensures (inr (refused _ _ c.loop-step.layers.items _ c.loop-step.invariant.unrolled none))

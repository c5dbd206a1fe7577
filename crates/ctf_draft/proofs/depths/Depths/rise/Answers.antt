use Rattle.std.proofs.Common.{◌+◌, ◌≤◌, List, ℕ, refl, sym, subst, ◌∙◌, arith}
use Rattle.std.specs.Prelude.{min}
use Rattle.ctf_draft.specs.Bounding.{IsOver, bound}
use Rattle.ctf_draft.proofs.Bounded.{lifted_bounded}
use Rattle.ctf_draft.proofs.Lifting.{lifted_same, still_over, written}
use Rattle.ctf_draft.proofs.depths.Depths.rise.Goals as goal

pub returns-else-not-lift-clause-still : goal.returns-else-not-lift-clause-still
returns-else-not-lift-clause-still c = λ d count ok.
    let x = c.args.self.now in
    let len = c.lift.ensures.len ∙ c.as_mut_slice-bounds.ensures.len in
    lifted_bounded d c.args.first x _ count refl
    (lifted_same c.args.first c.as_slice-above.result.now x.above.items c.as_mut_slice-bounds.result.now x.bounds.items c.lift.new.bounds _ (sym c.as_slice-above.ensures.value) (sym c.as_mut_slice-bounds.ensures.value) (written x.bounds.len c.lift.new.bounds x.bounds.items (omega (arith, len))) (c.lift.ensures.lifted c.if-not-lift.false))
    ok

pub returns-else-not-lift-clause-over : goal.returns-else-not-lift-clause-over
returns-else-not-lift-clause-over c =
    let x = c.args.self.now in
    let len = c.lift.ensures.len ∙ c.as_mut_slice-bounds.ensures.len in
    let lifted = lifted_same c.args.first c.as_slice-above.result.now x.above.items c.as_mut_slice-bounds.result.now x.bounds.items c.lift.new.bounds c.lift.new.bounds (sym c.as_slice-above.ensures.value) (sym c.as_mut_slice-bounds.ensures.value) refl (c.lift.ensures.lifted c.if-not-lift.false) in
    let high = c.lift.ensures.high c.if-not-lift.false in
    let enough : min 513 (bound x.bounds.items c.args.j + 1) ≤ bound c.lift.new.bounds c.args.i = omega (arith, high, c.over-least.ensures, c.bound.ensures) in
    subst (λ (bs : List ℕ). IsOver bs c.args.i c.args.j) (sym (written x.bounds.len c.lift.new.bounds x.bounds.items (omega (arith, len))))
    (still_over c.args.first _ x.bounds.items c.lift.new.bounds c.args.i c.args.j lifted c.requires.noted enough)

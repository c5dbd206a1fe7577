use Rattle.std.proofs.Common.{◌+◌, ◌≤◌, sym, refl, subst, ◌∙◌, arith}
use Rattle.std.specs.Prelude.{min, slice_set}
use Rattle.std.specs.List.{AllByRecursion}
use Rattle.std.proofs.lemmas.List.{take_all}
use Rattle.ctf_draft.specs.Bounding.{above_of, bound}
use Rattle.ctf_draft.proofs.Lifting.{bound_is, lifted_more, none_above, not_lifted, one_done, one_lifted, those_above}
use Rattle.ctf_draft.proofs.depths.+lift.Goals as goal
use Rattle.ctf_draft.proofs.depths.+lift.Goals.{then-not-lift_alone+else-not-lift, else-not-lift_alone}

pub loop-k-init : goal.loop-k-init
loop-k-init t c = record {
  len = refl;
  lifted = not_lifted c.args.first (above_of c.args.above.now) (slice_set c.args.bounds.now c.args.i c.raised_bound-value.result);
  done = tt;
}

pub loop-k-preserved : goal.loop-k-preserved
loop-k-preserved t c =
    let first = c.args.first in
    let above = above_of c.args.above.now in
    let start = slice_set c.args.bounds.now c.args.i c.raised_bound-value.result in
    let value = c.raised_bound-value.result in
    let holders = c.as_slice-holders.result.now in
    let alone = lifted_more first above start c.loop-k.bounds c.lift_alone.new.bounds c.loop-k.invariant.lifted c.lift_alone.ensures.lifted in
    elim c.if-not-lift_alone.branch [
      | then-not-lift_alone+else-not-lift w ↦
          let lifted = w.lift.ensures.lifted w.if-not-lift.false in
          let high = w.lift.ensures.high w.if-not-lift.false in
          let both = lifted_more first above c.loop-k.bounds c.lift_alone.new.bounds w.lift.new.bounds c.lift_alone.ensures.lifted lifted in
          record {
            len = rw w.bounds-is (w.lift.ensures.len ∙ c.lift_alone.ensures.len ∙ c.loop-k.invariant.len);
            lifted = rw w.bounds-is (lifted_more first above start c.lift_alone.new.bounds w.lift.new.bounds alone lifted);
            done = rw w.bounds-is (one_done c.loop-k.bounds w.lift.new.bounds value c.from-holder.result c.loop-k.k holders (omega arith) c.from-holder.ensures (omega (arith, high, c.over-next.ensures)) both.more c.loop-k.invariant.done);
          }
      | else-not-lift_alone w ↦
          let high = c.lift_alone.ensures.high w.if-not-lift_alone.false in
          record {
            len = rw w.bounds-is (c.lift_alone.ensures.len ∙ c.loop-k.invariant.len);
            lifted = rw w.bounds-is alone;
            done = rw w.bounds-is (one_done c.loop-k.bounds c.lift_alone.new.bounds value c.from-holder.result c.loop-k.k holders (omega arith) c.from-holder.ensures (omega (arith, high, c.over-next.ensures)) c.lift_alone.ensures.lifted.more c.loop-k.invariant.done);
          }
    ]

pub returns-then-i-above-clause-lifted : goal.returns-then-i-above-clause-lifted
returns-then-i-above-clause-lifted t c = λ yes.
    let value = c.raised_bound-value.result in
    one_lifted c.args.first (above_of c.args.above.now) c.args.bounds.now (slice_set c.args.bounds.now c.args.i value) c.args.i value (omega arith) (omega arith) (omega (arith, bound_is c.args.bounds.now c.args.i (omega arith), c.raised_bound-value.ensures))
    (not_lifted c.args.first (above_of c.args.above.now) (slice_set c.args.bounds.now c.args.i value))
    (subst (AllByRecursion (λ p. min 513 (value + 1) ≤ bound (slice_set c.args.bounds.now c.args.i value) p)) (sym (none_above c.args.above.now c.args.i (omega arith))) tt)

pub returns-clause-lifted : goal.returns-clause-lifted
returns-clause-lifted t c = λ yes.
    let value = c.raised_bound-value.result in
    let holders = c.as_slice-holders.result.now in
    let whole = take_all c.loop-k.k holders (omega arith) in
    let here = those_above c.args.above.now c.args.i c.index-above-i.result (omega arith) c.index-above-i.is in
    one_lifted c.args.first (above_of c.args.above.now) c.args.bounds.now c.loop-k.bounds c.args.i value (omega arith) (omega arith) (omega (arith, bound_is c.args.bounds.now c.args.i (omega arith), c.raised_bound-value.ensures)) c.loop-k.invariant.lifted
    (subst (AllByRecursion (λ p. min 513 (value + 1) ≤ bound c.loop-k.bounds p)) (whole ∙ c.as_slice-holders.ensures.value ∙ sym here) c.loop-k.invariant.done)

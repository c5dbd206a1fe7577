use Rattle.std.proofs.Common.{refl, ap, ◌∙◌, arith}
use Rattle.ctf_c.proofs.Naming.{last_done, last_more, no_more, one_more, rest_is}
use Rattle.ctf_c.proofs.paths.names_in.Goals.{then-bytes-at-eq0+in_ok-push, else-bytes-at-eq0, then-from-bytes+in_ok-push-2, else-from-bytes}
use Rattle.ctf_c.proofs.paths.names_in.Goals as goal

pub loop-at-preserved : goal.loop-at-preserved
loop-at-preserved c = elim c.if-bytes-at-eq0.branch [
  | then-bytes-at-eq0+in_ok-push w ↦
      let next = w.from-is in
      record {
        order = omega (arith, next);
        said = one_more c.args.bytes.now c.loop-at.from c.loop-at.at _ _ _ _ c.loop-at-test.true w.if-bytes-at-eq0.true (ap (λ v. v.items) w.names-is ∙ w.in_ok-push.ensures.items) refl w.from-is c.loop-at.invariant.said;
      }
  | else-bytes-at-eq0 w ↦
      let next = w.from-is in
      let order = c.loop-at.invariant.order in
      let byte = w.if-bytes-at-eq0.false in
      record {
        order = omega (arith, next, order);
        said = no_more c.args.bytes.now c.loop-at.from c.loop-at.at _ _ _ c.loop-at.invariant.order c.loop-at-test.true (omega (arith, byte)) (ap (λ v. v.items) w.names-is) w.from-is c.loop-at.invariant.said;
      }
]

pub returns : goal.returns
returns c = elim c.if-from-bytes.branch [
  | then-from-bytes+in_ok-push-2 w ↦ last_more c.args.bytes.now c.loop-at.from c.loop-at.at _ _ _ c.loop-at-test.false w.if-from-bytes.true (ap (λ v. v.items) w.names-is ∙ w.in_ok-push-2.ensures.items) (rest_is c.args.bytes.now c.loop-at.from) c.loop-at.invariant.said
  | else-from-bytes w ↦ last_done c.args.bytes.now c.loop-at.from c.loop-at.at _ _ c.loop-at-test.false w.if-from-bytes.false (ap (λ v. v.items) w.names-is) c.loop-at.invariant.said
]

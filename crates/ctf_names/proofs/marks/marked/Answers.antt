use Rattle.std.proofs.Common.{◌-◌, length, arith}
use Rattle.ctf_names.proofs.MarkedText.{marks_more, past_step}
use Rattle.ctf_names.proofs.marks.marked.Goals as goal

pub loop-k-preserved : goal.loop-k-preserved
loop-k-preserved c = record {
  found =
      let step = marks_more c.args.layers.now _ (length c.args.layers.now - 1 - c.loop-k.k) c.loop-k.k c.mark_of.result c.loop-k.below (omega arith) c.mark_of.ensures c.loop-k.invariant.below in
      let items = c.in_ok-push.ensures.items in
      let was = c.loop-k.invariant.found in
      cc;
  below = past_step c.args.layers.now _ (length c.args.layers.now - 1 - c.loop-k.k) c.loop-k.k c.first_beyond-below.result c.loop-k.below (omega arith) c.first_beyond-below.ensures c.loop-k.invariant.below;
}

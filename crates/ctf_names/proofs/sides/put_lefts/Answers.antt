use Rattle.std.proofs.Common.{◌≡◌, ◌+◌, ◌-◌, ◌++◌, length, take, reverse, arith, ap, ◌∙◌, append_assoc, length-append}
use Rattle.std.specs.List.{flat_map}
use Rattle.ctf_names.specs.Marks.{text_before}
use Rattle.ctf_names.proofs.MarkedText.{lefts_at}
use Rattle.ctf_names.proofs.sides.put_lefts.Goals as goal

pub put-requires : goal.put-requires
put-requires c =
    let next : flat_map text_before (reverse (take (length c.args.marks.now - c.loop-k.k) c.args.marks.now)) ≡ c.as_bytes.result.now ++ flat_map text_before (reverse (take (length c.args.marks.now - (c.loop-k.k + 1)) c.args.marks.now)) =
    rw (c.as_bytes.ensures.value, c.text_before.ensures) (lefts_at c.args.marks.now _ (length c.args.marks.now - 1 - c.loop-k.k) c.loop-k.k (omega arith)) in
    let i = c.loop-k.invariant in
    omega (arith, ap length next, length-append c.as_bytes.result.now (flat_map text_before (reverse (take (length c.args.marks.now - (c.loop-k.k + 1)) c.args.marks.now))), i.len, i.capacity, i.room)

pub loop-k-preserved : goal.loop-k-preserved
loop-k-preserved c =
    let next : flat_map text_before (reverse (take (length c.args.marks.now - c.loop-k.k) c.args.marks.now)) ≡ c.as_bytes.result.now ++ flat_map text_before (reverse (take (length c.args.marks.now - (c.loop-k.k + 1)) c.args.marks.now)) =
    rw (c.as_bytes.ensures.value, c.text_before.ensures) (lefts_at c.args.marks.now _ (length c.args.marks.now - 1 - c.loop-k.k) c.loop-k.k (omega arith)) in
    let i = c.loop-k.invariant in
    record {
      added = rw c.put.ensures.items (rw append_assoc (rw (← next) i.added));
      len = omega (arith, ap length next, length-append c.as_bytes.result.now (flat_map text_before (reverse (take (length c.args.marks.now - (c.loop-k.k + 1)) c.args.marks.now))), i.len, c.put.ensures.len);
      capacity = c.put.ensures.capacity ∙ i.capacity;
      room = i.room;
    }

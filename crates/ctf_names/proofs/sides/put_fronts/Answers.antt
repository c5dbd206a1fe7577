use Rattle.std.proofs.Common.{arith, ◌∙◌}
use Rattle.ctf_names.specs.Marks.{front}
use Rattle.ctf_names.proofs.MarkedText.{one_fits}
use Rattle.ctf_names.proofs.sides.put_fronts.Goals as goal

pub put-requires : goal.put-requires
put-requires c =
    let room = one_fits front c.args.marks.now c.loop-mark.mark-index _ c.as_bytes.result.now c.loop-mark-test.true (c.as_bytes.ensures.value ∙ c.front.ensures) in
    let i = c.loop-mark.invariant in
    omega (arith, room, i.len, i.capacity, i.room)

use Rattle.std.proofs.Common.{arith, refl}
use Rattle.ctf_names.specs.Marks.{right}
use Rattle.ctf_model.specs.declared.layers.Qualifier.TheVariants.{Volatile}
use Rattle.ctf_names.specs.declared.marks.Mark.TheVariants.{Front}
use Rattle.ctf_names.proofs.MarkedText.{one_fits}
use Rattle.ctf_names.proofs.sides.put_rights.Goals as goal

pub put_right-requires : goal.put_right-requires
put_right-requires c =
    let room = one_fits right c.args.marks.now c.loop-mark.mark-index (Front Volatile) _ c.loop-mark-test.true refl in
    let i = c.loop-mark.invariant in
    omega (arith, room, i.len, i.capacity, i.room)

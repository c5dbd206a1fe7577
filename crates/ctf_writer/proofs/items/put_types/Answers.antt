use Rattle.std.proofs.Common.{arith, get_or}
use Rattle.std.proofs.lemmas.List.{get_or_default}
use Rattle.ctf_model.specs.declared.numbers.TypeNum.{TypeNum}
use Rattle.ctf_writer.specs.DraftContentView.{written_argument}
use Rattle.ctf_writer.proofs.Joining.{items_more, len_more, room_for}
use Rattle.ctf_writer.proofs.items.put_types.Goals as goal

abbrev none : TypeNum
none = record { 0 = 0 }

pub put_u16-requires : goal.put_u16-requires
put_u16-requires c =
    let i = c.loop-tnum.invariant in
    let len = i.len in
    let capacity = i.capacity in
    let all = c.requires.room in
    let room = room_for written_argument c.args.types.now c.loop-tnum.tnum-index (get_or c.args.types.now c.loop-tnum.tnum-index none) c.loop-tnum-test.true (get_or_default c.args.types.now c.loop-tnum.tnum-index none (get_or c.args.types.now c.loop-tnum.tnum-index none) c.loop-tnum-test.true) in
    omega (arith, room, len, capacity, all)

pub loop-tnum-preserved : goal.loop-tnum-preserved
loop-tnum-preserved c =
    let i = c.loop-tnum.invariant in
    let f = written_argument in
    let more = len_more written_argument c.args.types.now c.loop-tnum.tnum-index (get_or c.args.types.now c.loop-tnum.tnum-index none) c.loop-tnum-test.true (get_or_default c.args.types.now c.loop-tnum.tnum-index none (get_or c.args.types.now c.loop-tnum.tnum-index none) c.loop-tnum-test.true) in
    let len = i.len in
    let capacity = i.capacity in
    let put = c.put_u16.ensures.len in
    let stays = c.put_u16.ensures.capacity in
    record {
      added = items_more f c.args.types.now c.loop-tnum.tnum-index (get_or c.args.types.now c.loop-tnum.tnum-index none) c.loop-tnum-test.true (get_or_default c.args.types.now c.loop-tnum.tnum-index none (get_or c.args.types.now c.loop-tnum.tnum-index none) c.loop-tnum-test.true) c.args.out.now.items c.loop-tnum.out.items c.put_u16.new.out.items i.added c.put_u16.ensures.items;
      len = omega (arith, more, len, put);
      capacity = omega (arith, capacity, stays);
    }

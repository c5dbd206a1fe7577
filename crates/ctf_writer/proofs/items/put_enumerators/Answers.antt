use Rattle.std.proofs.Common.{arith}
use Rattle.ctf_writer.specs.Tables.{names}
use Rattle.ctf_writer.specs.DraftContentView.{written_enumerator}
use Rattle.ctf_writer.proofs.Joining.{items_more, len_more, room_for}
use Rattle.ctf_writer.proofs.items.put_enumerators.Goals as goal

pub put_enumerator-requires-clause-room : goal.put_enumerator-requires-clause-room
put_enumerator-requires-clause-room c =
    let i = c.loop-enumerator.invariant in
    let len = i.len in
    let capacity = i.capacity in
    let all = c.requires.room in
    let room = room_for (written_enumerator (names c.args.strings.now)) c.args.enumerators.now c.loop-enumerator.enumerator-index c.enumerator-item.result c.loop-enumerator-test.true c.enumerator-item.is in
    omega (arith, room, len, capacity, all)

pub loop-enumerator-preserved : goal.loop-enumerator-preserved
loop-enumerator-preserved c =
    let i = c.loop-enumerator.invariant in
    let f = written_enumerator (names c.args.strings.now) in
    let more = len_more (written_enumerator (names c.args.strings.now)) c.args.enumerators.now c.loop-enumerator.enumerator-index c.enumerator-item.result c.loop-enumerator-test.true c.enumerator-item.is in
    let len = i.len in
    let capacity = i.capacity in
    let put = c.put_enumerator.ensures.len in
    let stays = c.put_enumerator.ensures.capacity in
    record {
      added = items_more f c.args.enumerators.now c.loop-enumerator.enumerator-index c.enumerator-item.result c.loop-enumerator-test.true c.enumerator-item.is c.args.out.now.items c.loop-enumerator.out.items c.put_enumerator.new.out.items i.added c.put_enumerator.ensures.items;
      len = omega (arith, more, len, put);
      capacity = omega (arith, capacity, stays);
    }

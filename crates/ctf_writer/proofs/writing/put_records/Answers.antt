use Rattle.std.proofs.Common.{arith}
use Rattle.ctf_writer.specs.Tables.{names}
use Rattle.ctf_writer.specs.DraftContentView.{written_type}
use Rattle.ctf_writer.proofs.Joining.{items_more, len_more, room_for}
use Rattle.ctf_writer.proofs.writing.put_records.Goals as goal

pub put_record-requires-clause-room : goal.put_record-requires-clause-room
put_record-requires-clause-room c =
    let i = c.loop-t.invariant in
    let len = i.len in
    let capacity = i.capacity in
    let all = c.requires.room in
    let room = room_for (written_type (names c.args.strings.now)) c.args.types.now c.loop-t.t-index c.t-item.result c.loop-t-test.true c.t-item.is in
    omega (arith, room, len, capacity, all)

pub loop-t-preserved : goal.loop-t-preserved
loop-t-preserved c =
    let i = c.loop-t.invariant in
    let f = written_type (names c.args.strings.now) in
    let more = len_more (written_type (names c.args.strings.now)) c.args.types.now c.loop-t.t-index c.t-item.result c.loop-t-test.true c.t-item.is in
    let len = i.len in
    let capacity = i.capacity in
    let put = c.put_record.ensures.len in
    let stays = c.put_record.ensures.capacity in
    record {
      added = items_more f c.args.types.now c.loop-t.t-index c.t-item.result c.loop-t-test.true c.t-item.is c.args.out.now.items c.loop-t.out.items c.put_record.new.out.items i.added c.put_record.ensures.items;
      len = omega (arith, more, len, put);
      capacity = omega (arith, capacity, stays);
    }

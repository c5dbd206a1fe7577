use Rattle.std.proofs.Common.{arith}
use Rattle.ctf_writer.specs.Tables.{names}
use Rattle.ctf_writer.specs.DraftContentView.{written_member}
use Rattle.ctf_writer.proofs.Joining.{items_more, len_more, room_for}
use Rattle.ctf_writer.proofs.items.put_members.Goals as goal

pub put_member-requires-clause-room : goal.put_member-requires-clause-room
put_member-requires-clause-room c =
    let i = c.loop-member.invariant in
    let len = i.len in
    let capacity = i.capacity in
    let all = c.requires.room in
    let room = room_for (written_member (names c.args.strings.now) c.args.size) c.args.members.now c.loop-member.member-index c.member-item.result c.loop-member-test.true c.member-item.is in
    omega (arith, room, len, capacity, all)

pub loop-member-preserved : goal.loop-member-preserved
loop-member-preserved c =
    let i = c.loop-member.invariant in
    let f = written_member (names c.args.strings.now) c.args.size in
    let more = len_more (written_member (names c.args.strings.now) c.args.size) c.args.members.now c.loop-member.member-index c.member-item.result c.loop-member-test.true c.member-item.is in
    let len = i.len in
    let capacity = i.capacity in
    let put = c.put_member.ensures.len in
    let stays = c.put_member.ensures.capacity in
    record {
      added = items_more f c.args.members.now c.loop-member.member-index c.member-item.result c.loop-member-test.true c.member-item.is c.args.out.now.items c.loop-member.out.items c.put_member.new.out.items i.added c.put_member.ensures.items;
      len = omega (arith, more, len, put);
      capacity = omega (arith, capacity, stays);
    }

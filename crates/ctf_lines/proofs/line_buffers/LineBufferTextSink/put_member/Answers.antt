use Rattle.std.proofs.Common.{arith}
use Rattle.ctf_lines.proofs.MemberTexts.{member_short}
use Rattle.ctf_lines.proofs.line_buffers.LineBufferTextSink.put_member.Goals as goal

pub replace_with-requires : goal.replace_with-requires
replace_with-requires c =
    let short = member_short c.args.name.now c.args.offset c.args.number c.ranges.offset.fits c.ranges.number.fits in
    let room = c.room-room.ensures in
    let fits = c.if-name-room.true in
    let more = c.if-room-name-ge69.true in
    let inside = c.args.self.now.inside in
    omega (arith, short, room, fits, more, inside)

pub invariant_of-self : goal.invariant_of-self
invariant_of-self c =
    let short = member_short c.args.name.now c.args.offset c.args.number c.ranges.offset.fits c.ranges.number.fits in
    let room = c.room-room.ensures in
    let fits = c.if-name-room.true in
    let more = c.if-room-name-ge69.true in
    let inside = c.args.self.now.inside in
    let len = c.replace_with.ensures.len in
    let capacity = c.replace_with.ensures.capacity in
    record {
      within = omega (arith, short, room, fits, more, len);
      inside = omega (arith, inside, capacity);
    }

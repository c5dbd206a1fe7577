use Rattle.std.proofs.Common.{arith}
use Rattle.ctf_writer.specs.Tables.{names}
use Rattle.ctf_writer.proofs.Joining.{labels_room}
use Rattle.ctf_writer.proofs.labels.put_labels.Goals as goal

pub put_label-requires-clause-room : goal.put_label-requires-clause-room
put_label-requires-clause-room c =
    let i = c.loop-i.invariant in
    let len = i.len in
    let capacity = i.capacity in
    let all = c.requires.room in
    let test = c.loop-i-test.true in
    let count = c.len-i-end.ensures.len in
    let end = c.loop-i.auto.i-end in
    let room = labels_room (names c.args.strings.now) c.args.labels.now c.loop-i.i (omega (arith, test, count, end)) in
    omega (arith, room, len, capacity, all)

use Rattle.std.proofs.Common.{◌<◌, arith, get_or, length}
use Rattle.ctf_writer.proofs.Placing.{more_marked, name_is, no_name}
use Rattle.ctf_writer.proofs.strings.endings_of.Goals as goal

pub loop-name-preserved : goal.loop-name-preserved
loop-name-preserved c =
    let names = c.as_slice-names.result.now in
    let i = c.loop-name.name-index in
    let test = c.loop-name-test.true in
    let end = c.loop-name.auto.name-index-end in
    let lt : c.loop-name.name-index < length c.as_slice-names.result.now = omega (arith, test, end) in
    more_marked c.loop-name.endings c.add.new.self names i (get_or names i no_name) lt (name_is names i lt) c.add.ensures.added c.add.ensures.kept c.loop-name.invariant

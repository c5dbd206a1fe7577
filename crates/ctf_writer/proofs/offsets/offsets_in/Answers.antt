use Rattle.std.proofs.Common.{arith}
use Rattle.ctf_writer.proofs.TableNames.{first_short, noted}
use Rattle.ctf_writer.proofs.offsets.offsets_in.Goals as goal

pub names-preserved : goal.names-preserved
names-preserved c =
    let table = c.args.table.now in
    let at = c.names.at in
    let name = c.name_at-name.result.now in
    let lt = c.names-test.true in
    let short = first_short table at name lt c.name_at-name.ensures in
    (noted c.args.endings.now table at c.names.offsets.entries c.note.new.offsets.entries name lt c.name_at-name.ensures c.names.invariant.0 c.in_ok-note.ensures, omega (arith, short))

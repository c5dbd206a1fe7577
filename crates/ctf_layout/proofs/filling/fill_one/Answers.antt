use Rattle.ctf_layout.specs.Kept.{table_kept}
use Rattle.ctf_layout.proofs.Visits.{visited_before}
use Rattle.ctf_layout.proofs.filling.fill_one.Goals as goal

pub returns-in-Some : goal.returns-in-Some
returns-in-Some g c =
    visited_before (g.T.Types.space c.args.types.now) c.args.i (table_kept c.args.table.now) c.args.work.now c.requires.knows
    (rw c.in-Some.ensures.0 c.in-Some.ensures.1)

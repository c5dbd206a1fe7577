use Rattle.ctf_views.proofs.Items.{placed, row_says}
use Rattle.ctf_views.proofs.rows.bytes_at.Goals as goal

pub returns-clause-item : goal.returns-clause-item
returns-clause-item g c =
    row_says (g.R.Row.item_of c.args.row) (g.R.Row.row_len c.args.row) c.args.count c.args.index c.args.bytes.now c.from_row.result.now c.requires.good c.requires.inside
    (placed c.args.bytes.now c.from_row.result.now c.len.result (g.R.Row.row_len c.args.row) c.args.index c.from_row.ensures c.len.ensures)

use Rattle.ctf_views.proofs.Items.{item_is, row_good, placed}
use Rattle.ctf_views.proofs.rows.item_at.Goals as goal

pub first-requires-clause-good : goal.first-requires-clause-good
first-requires-clause-good g c = row_good (g.R.Row.item_of c.args.row) (g.R.Row.row_len c.args.row) c.args.count c.args.bytes.now c.requires.good c.args.index _ c.requires.inside (placed c.args.bytes.now _ _ _ c.args.index c.from_row.ensures c.len.ensures)

pub returns : goal.returns
returns g c = item_is (g.R.Row.item_of c.args.row) (g.R.Row.row_len c.args.row) c.args.count c.args.index c.args.bytes.now _ _ c.requires.good c.requires.inside (placed c.args.bytes.now _ _ _ c.args.index c.from_row.ensures c.len.ensures) c.first.ensures

use Rattle.ctf_views.proofs.Items.{count_is}
use Rattle.ctf_views.proofs.rows.RowIterExactSizeIterator.len.Goals as goal

pub returns-clause-value : goal.returns-clause-value
returns-clause-value g c = count_is (g.R.Row.item_of c.self.inside.row) (g.R.Row.row_len c.self.inside.row) c.self.inside.count c.self.inside.bytes.now c.args.self.now c.self.view_is c.self.invariant

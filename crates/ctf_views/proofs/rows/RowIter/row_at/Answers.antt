use Rattle.ctf_views.proofs.Items.{row_starts, row_long, row_reads}
use Rattle.ctf_views.proofs.rows.RowIter.row_at.Goals as goal

pub from_row-requires : goal.from_row-requires
from_row-requires g c = row_starts (g.R.Row.item_of c.self.inside.row) (g.R.Row.row_len c.self.inside.row) c.self.inside.count c.self.inside.bytes.now c.args.self.now c.self.view_is c.self.invariant _ c.args.index c.len.ensures c.requires

pub returns-clause-inside : goal.returns-clause-inside
returns-clause-inside g c = row_long (g.R.Row.item_of c.self.inside.row) (g.R.Row.row_len c.self.inside.row) c.self.inside.count c.self.inside.bytes.now c.args.self.now c.self.view_is c.self.invariant _ c.args.index _ c.len.ensures c.requires c.from_row.ensures

pub returns-clause-item : goal.returns-clause-item
returns-clause-item g c = row_reads (g.R.Row.item_of c.self.inside.row) (g.R.Row.row_len c.self.inside.row) c.self.inside.count c.self.inside.bytes.now c.args.self.now c.self.view_is c.self.invariant _ c.args.index _ c.len.ensures c.requires c.from_row.ensures

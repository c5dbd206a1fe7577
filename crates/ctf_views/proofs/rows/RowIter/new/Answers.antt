use Rattle.ctf_views.proofs.Items.{items_in_is}
use Rattle.ctf_views.proofs.rows.RowIter.new.Goals as goal

pub returns : goal.returns
returns g c = items_in_is (g.R.Row.item_of c.args.row) (g.R.Row.row_len c.args.row) c.args.count c.args.bytes.now c.requires

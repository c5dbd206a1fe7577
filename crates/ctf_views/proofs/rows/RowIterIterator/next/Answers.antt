use Rattle.ctf_views.proofs.Items.{none_left, next_steps, next_keeps, goes_front, placed}
use Rattle.ctf_views.proofs.rows.RowIterIterator.next.Goals as goal

pub returns-then-self-eq0-clause-steps : goal.returns-then-self-eq0-clause-steps
returns-then-self-eq0-clause-steps g c = none_left (g.R.Row.item_of c.self.inside.row) (g.R.Row.row_len c.self.inside.row) c.self.inside.count c.self.inside.bytes.now c.args.self.now c.self.view_is c.self.invariant c.if-self-eq0.true

pub invariant_of-self : goal.invariant_of-self
invariant_of-self g c = next_keeps (g.R.Row.item_of c.self.inside.row) (g.R.Row.row_len c.self.inside.row) c.self.inside.count c.self.inside.bytes.now c.args.self.now c.self.view_is c.self.invariant _ _ c.if-self-eq0.false c.item_at-first.ensures (placed c.self.inside.bytes.now _ _ _ 1 c.from_row-self-inside.ensures c.len.ensures)

pub returns-clause-steps : goal.returns-clause-steps
returns-clause-steps g c = next_steps (g.R.Row.item_of c.self.inside.row) (g.R.Row.row_len c.self.inside.row) c.self.inside.count c.self.inside.bytes.now c.args.self.now c.self.view_is c.self.invariant _ _ c.if-self-eq0.false c.item_at-first.ensures (placed c.self.inside.bytes.now _ _ _ 1 c.from_row-self-inside.ensures c.len.ensures)

pub returns-clause-goes : goal.returns-clause-goes
returns-clause-goes g c = goes_front g.R.Row.seen _ (λ _. tt) _ _ _ (returns-clause-steps g c)

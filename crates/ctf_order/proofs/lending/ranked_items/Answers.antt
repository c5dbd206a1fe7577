use Rattle.ctf_order.specs.Naming.{naming}
use Rattle.ctf_order.proofs.Lent.{ranks_moved}
use Rattle.ctf_order.proofs.lending.ranked_items.Goals as goal

pub returns : goal.returns
returns c =
    ranks_moved (naming c.args.texts.now) c.args.items.items c.sort_unstable.new.self.items c.in_ok-sorted.sorted.items c.sort_unstable.ensures.permutation (rw c.deref-2.ensures.value at c.in_ok-sorted.ensures)

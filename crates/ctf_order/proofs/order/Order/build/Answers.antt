use Rattle.std.proofs.lemmas.List.Sorted.{IsPermutation-refl}
use Rattle.ctf_order.specs.Naming.{naming}
use Rattle.ctf_order.proofs.Lent.{fits}
use Rattle.ctf_order.proofs.order.Order.build.Goals as goal

pub returns : goal.returns
returns c =
    fits (naming c.args.texts.now) c.args.items.items c.args.items.items c.in_ok-entries.entries.items _ (IsPermutation-refl c.args.items.items) c.in_ok-entries.ensures c.arrange.ensures.permutation c.arrange.ensures.sorted

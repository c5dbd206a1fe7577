-- The order of names is total.
use Rattle.std.specs.Cmp.{IsTotalOrder, IsStrictWeakOrder}
use Rattle.std.proofs.lemmas.Cmp.{then_total, nat_cmp_total, on_total}
use Rattle.std.proofs.lemmas.List.MinMax.{ranks_by}
use Rattle.ctf_order.specs.Names.{by_rank, rank}
use Rattle.ctf_order.specs.Naming.{Naming, name_or_empty}
use Rattle.ctf_order.specs.Holding.{precedes}
use Rattle.ctf_order.specs.Lending.{goes_before}
use Rattle.ctf_order.specs.declared.entries.NamedItem.{NamedItem}
use Rattle.ctf_order.specs.declared.entries.Ranked.{Ranked}

pub names_total : IsTotalOrder by_rank
names_total = on_total rank nat_cmp_total

pub precedes_ranks : (t : Naming) → IsStrictWeakOrder (precedes t)
precedes_ranks t = ranks_by (then_total (on_total (λ (e : NamedItem). name_or_empty t e.reference) names_total) (on_total (λ (e : NamedItem). e.item) nat_cmp_total)) (λ e. e)

pub kept_ranks : IsStrictWeakOrder goes_before
kept_ranks = ranks_by (then_total (on_total (λ (r : Ranked). r.rank) nat_cmp_total) (on_total (λ (r : Ranked). r.entry.item) nat_cmp_total)) (λ r. r)

use Rattle.std.proofs.Common.{◌+◌, ◌-◌, ◌≤◌, ltb, length, arith}
use Rattle.std.proofs.lemmas.Grind.{common_steps}
use Rattle.std.proofs.lemmas.List.Sorted.{IsPartitionPoint-from_clause}
use Rattle.ctf_order.proofs.Near.{lower_before, middle_length, parted_middle}
use Rattle.ctf_order.proofs.order.begin.Goals as goal

pub returns-then-is_near-clause-low : goal.returns-then-is_near-clause-low
returns-then-is_near-clause-low c = λ parted.
    let entries = c.args.entries.now in
    let from = c.saturating_sub-from.result in
    let rank = c.args.rank in
    let count = from + 32 - from in
    let near = c.is_near.ensures c.if-is_near.true in
    let inside : from + count ≤ length entries = omega (arith, near.inside) in
    let point = IsPartitionPoint-from_clause (λ r. ltb r.rank rank) _ _ c.partition_point.ensures.partitioned (parted_middle entries from count rank inside parted) (λ a r q k. grind (arith, common_steps)) in
    lower_before entries from count rank c.partition_point.result (omega (arith, near.inside)) inside parted near.lower (omega (arith, c.partition_point.ensures.bound, middle_length entries from count inside)) (λ j d lt within. point.0 j d (omega arith) lt)

pub returns-clause-low : goal.returns-clause-low
returns-clause-low c = λ parted j d lt within.
    let point = IsPartitionPoint-from_clause (λ r. ltb r.rank c.args.rank) _ _ c.partition_point-2.ensures.partitioned parted (λ a r q k. grind (arith, common_steps)) in
    point.0 j d (omega arith) lt

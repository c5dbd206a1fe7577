use Rattle.std.proofs.Common.{arith}
use Rattle.std.specs.Prelude.{nat_lt}
use Rattle.std.proofs.lemmas.Grind.{common_steps}
use Rattle.std.proofs.lemmas.List.Sorted.{IsPartitionPoint-from_clause}
use Rattle.ctf_names.proofs.Pointing.{parted}
use Rattle.ctf_names.proofs.pointers.begin.Goals as goal

pub returns-clause-low : goal.returns-clause-low
returns-clause-low c = λ sorted j d lt.
    let t = c.args.target in
    let point = IsPartitionPoint-from_clause (λ p. nat_lt p.target t) _ _ c.partition_point.ensures.partitioned (parted t c.args.pointers.now sorted) (λ a r q k. grind (arith, common_steps)) in
    point.0 j d (omega arith) lt

pub returns-clause-high : goal.returns-clause-high
returns-clause-high c = λ sorted j d le lt.
    let t = c.args.target in
    let point = IsPartitionPoint-from_clause (λ p. nat_lt p.target t) _ _ c.partition_point.ensures.partitioned (parted t c.args.pointers.now sorted) (λ a r q k. grind (arith, common_steps)) in
    point.1 j d le lt

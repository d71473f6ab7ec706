-- Assumes nothing.
use Rattle.std.proofs.Common.{rules}
use Rattle.std.proofs.lemmas.List.Sorted.{IsPartitionPoint-from_clause}
use Rattle.pool.proofs.Ascent.{costs_less, parted, cheaper_before}
use Rattle.pool.proofs.cheaper.Goals as goal

pub returns : goal.returns
returns c =
    let zs = c.args.costs.now in
    let xs = c.args.waiting.now in
    let p =
    IsPartitionPoint-from_clause (costs_less zs c.args.cost) xs _ c.partition_point.ensures.partitioned
    (parted zs c.args.cost xs c.requires.0 c.requires.1) (λ a r f k. search rules)
    in
    (c.partition_point.ensures.bound, cheaper_before zs c.args.cost xs _ c.requires.0 c.partition_point.ensures.bound p.0)

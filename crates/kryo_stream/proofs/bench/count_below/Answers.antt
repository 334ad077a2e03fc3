use Rattle.std.proofs.Common.{rules, ltb}
use Rattle.std.proofs.lemmas.List.Sorted.{IsPartitionPoint-from_clause, IsPartitionedBy-ltb}
use Rattle.kryo_stream.proofs.FindLemmas.{count_by-partition_point}
use Rattle.kryo_stream.proofs.bench.count_below.Goals as goal

pub returns : goal.returns
returns c =
    count_by-partition_point (λ x. ltb x c.args.limit) _ _ c.partition_point.ensures.bound
    (IsPartitionPoint-from_clause (λ x. ltb x c.args.limit) _ _ c.partition_point.ensures.partitioned
    (IsPartitionedBy-ltb (λ x. x) _ _ c.requires) (λ a r f' called. search rules))

use Rattle.std.proofs.Common.{rules, leb}
use Rattle.std.proofs.lemmas.List.Sorted.{IsPartitionPoint-from_clause, IsPartitionedBy-leb}
use Rattle.kryo_stream.proofs.FindLemmas.{count_by-partition_point}
use Rattle.kryo_stream.proofs.bench.count_at_most.Goals as goal

pub returns : goal.returns
returns c =
    count_by-partition_point (λ x. leb x c.args.limit) _ _ c.partition_point.ensures.bound
    (IsPartitionPoint-from_clause (λ x. leb x c.args.limit) _ _ c.partition_point.ensures.partitioned
    (IsPartitionedBy-leb (λ x. x) _ _ c.requires) (λ a r f' called. search rules))

use Rattle.std.proofs.Common.{rules, leb}
use Rattle.std.proofs.lemmas.List.Sorted.{IsPartitionPoint-from_clause, IsPartitionedBy-leb}
use Rattle.std.proofs.lemmas.Map.Keys.{non_decreasing_from_sorted, sorted_from_strictly_increasing}
use Rattle.index_turns.proofs.Counts.{count_by-partition_point}
use Rattle.index_turns.proofs.track_flux.TrackFlux.turn_of.Goals as goal

-- src/track_flux.rt:123:5
pub returns : goal.returns
returns c =
    let order = non_decreasing_from_sorted _ (sorted_from_strictly_increasing _ c.self.invariant.1) in
    rw (← c.self.view_is) (rw (← c.as_slice.ensures.value) (count_by-partition_point (λ t. leb t c.args.time) _ _
    c.partition_point.ensures.bound
    (IsPartitionPoint-from_clause (λ t. leb t c.args.time) _ _ c.partition_point.ensures.partitioned
    (IsPartitionedBy-leb (λ x. x) _ _ (rw c.as_slice.ensures.value order))
    (λ a r f' called. search rules))))

use Rattle.kryo_stream.specs.Bench.{ends_between}
use Rattle.kryo_stream.proofs.Ends.{StandTo, skipped-order, stand-to}
use Rattle.kryo_stream.proofs.bench.StreamBench.count_to.Goals as goal

pub count_at_most-requires : goal.count_at_most-requires
count_at_most-requires c = rw c.as_slice.ensures.value (skipped-order c.self.inside.counted c.self.inside.skipped.items c.self.invariant.0)

found : (c : goal.After-count_at_most)
    → StandTo (ends_between 0 c.self.inside.skipped.items c.self.inside.counted) c.args.position c.count_at_most.result
found c =
    stand-to c.self.inside.counted c.args.position c.count_at_most.result c.self.inside.skipped.items c.self.invariant.0
    (rw (← c.self.view_is) at c.requires.order) (rw (← c.self.view_is) at c.requires.within)
    (rw c.as_slice.ensures.value at c.count_at_most.ensures)

pub overflow_sub-result : goal.overflow_sub-result
overflow_sub-result c = (found c).inside

pub returns-clause-count : goal.returns-clause-count
returns-clause-count c = rw (← c.self.view_is) (found c).count

pub returns-clause-few : goal.returns-clause-few
returns-clause-few c = rw (← c.self.view_is) (found c).few

pub returns-clause-last : goal.returns-clause-last
returns-clause-last c = rw (← c.self.view_is) (found c).last

use Rattle.std.proofs.Common.{arith, ap, ◌∙◌, count_by, nat_lt, ◌≤◌, ◌≡◌, ◌+◌, ◌*◌, ◌-◌}
use Rattle.kryo_stream.specs.Bench.{BenchState}
use Rattle.kryo_stream.specs.inside.Bench.{base_time}
use Rattle.kryo_stream.proofs.IndexLemmas.{base_time-from_counts}
use Rattle.kryo_stream.proofs.bench.StreamBench.begin_time.Goals as goal

counts : (c : goal.After-time_before) → (c.count_below-before.result ≤ c.count_below-behind.result)
    × (c.time_before.result + 65536 * (c.count_below-behind.result - c.count_below-before.result)
    ≡ base_time c.args.self.now.ends c.args.self.now.overflows c.args.times.now c.args.position)
counts c =
    let seen = ap (λ (b : BenchState). b.overflows) c.self.view_is in
    let behind = c.count_below-behind.ensures ∙ ap (count_by (λ x. nat_lt x c.args.position)) (c.as_slice.ensures.value ∙ seen) in
    let before = c.count_below-before.ensures ∙ ap (count_by (λ x. nat_lt x c.end_before-end.result)) (c.as_slice-2.ensures.value ∙ seen) in
    base_time-from_counts c.args.self.now.ends c.args.self.now.overflows c.args.times.now c.args.position _ _ _ _ _
    c.count_to-count.ensures.count c.end_before-end.ensures (omega (arith, c.count_to-count.ensures.last, c.end_before-end.ensures))
    behind before c.time_before.ensures

pub overflow_sub-result : goal.overflow_sub-result
overflow_sub-result c = (counts c).0

pub returns-clause-value : goal.returns-clause-value
returns-clause-value c = (counts c).1

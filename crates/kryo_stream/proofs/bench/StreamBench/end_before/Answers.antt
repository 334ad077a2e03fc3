use Rattle.std.proofs.Common.{◌≡◌, ◌<◌, ◌+◌, ◌∷◌, get_or, arith}
use Rattle.std.proofs.Math.Facts.{Fits-of_lt}
use Rattle.kryo_stream.specs.Bench.{ends_between}
use Rattle.kryo_stream.proofs.Ends.{ends-at, ends-count}
use Rattle.kryo_stream.proofs.bench.StreamBench.end_before.Goals as goal

pub skipped_before-requires-clause-rising : goal.skipped_before-requires-clause-rising
skipped_before-requires-clause-rising c = (c.self.inside.counted, rw c.as_slice.ensures.value c.self.invariant.0)

pub skipped_before-requires-clause-few : goal.skipped_before-requires-clause-few
skipped_before-requires-clause-few c =
    let few = rw (← c.self.view_is) at c.requires.inside in
    let near = rw (← c.self.view_is) at c.requires.near in
    omega (arith, few, near, ends-count 0 c.self.inside.counted c.self.inside.skipped.items c.self.invariant.0)

placed : (c : goal.After-skipped_before)
    → (c.args.count + c.skipped_before.result < 4294967296)
    × (c.args.count + c.skipped_before.result
    ≡ get_or (0 ∷ ends_between 0 c.self.inside.skipped.items c.self.inside.counted) c.args.count 0)
placed c =
    let few = rw (← c.self.view_is) at c.requires.inside in
    let near = rw (← c.self.view_is) at c.requires.near in
    let inside = rw c.as_slice.ensures.value at c.skipped_before.ensures.inside in
    let before = rw c.as_slice.ensures.value at c.skipped_before.ensures.before in
    let behind = rw c.as_slice.ensures.value at c.skipped_before.ensures.behind in
    let at = ends-at 0 c.self.inside.counted c.args.count c.skipped_before.result c.self.inside.skipped.items c.self.invariant.0
    few inside (λ j below. omega (arith, before j below)) (λ j from below. omega (arith, behind j from below)) in
    (omega (arith, few, near, inside, ends-count 0 c.self.inside.counted c.self.inside.skipped.items c.self.invariant.0), omega (arith, at))

pub overflow_add-result : goal.overflow_add-result
overflow_add-result c = omega (arith, (placed c).0)

pub overflow_cast-result : goal.overflow_cast-result
overflow_cast-result c = Fits-of_lt (placed c).0

pub returns : goal.returns
returns c = rw (← c.self.view_is) (placed c).1

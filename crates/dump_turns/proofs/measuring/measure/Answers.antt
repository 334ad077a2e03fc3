use Rattle.std.proofs.Common.{◌≡◌, ◌<◌, ◌≤◌, ◌-◌, ◌∙◌, ℕ, List, length, slice_index, sym, ap, subst, arith}
use Rattle.std.specs.Prelude.{◌^◌, All}
use Rattle.std.proofs.lemmas.List.Elements.{All-get_or}
use Rattle.std.specs.List.Sorted.{IsStrictlyIncreasing}
use Rattle.dump_turns.proofs.Turning.{measured-first, measured-next, none-longer, none-shorter, rises}
use Rattle.dump_turns.proofs.measuring.measure.Goals as goal

pub loop-turn-init : goal.loop-turn-init
loop-turn-init c = measured-first c.args.flux.now.indexes c.turn_ticks-least.result c.requires.some c.turn_ticks-least.ensures

pub loop-turn-preserved : goal.loop-turn-preserved
loop-turn-preserved c =
    let now = c.loop-turn in
    let same : length c.indexes-indexes.result.now ≡ length c.args.flux.now.indexes = ap length c.indexes-indexes.ensures.value in
    let below : c.loop-turn.turn < length c.args.flux.now.indexes = omega (arith, same) in
    let next = measured-next c.args.flux.now.indexes now.turn now.least now.greatest c.turn_ticks-ticks.result now.invariant below c.turn_ticks-ticks.ensures in
    rw (c.min-least.ensures, c.max-greatest.ensures) next

pub overflow_sub-result : goal.overflow_sub-result
overflow_sub-result c =
    let same : length c.indexes-indexes.result.now ≡ length c.args.flux.now.indexes = ap length c.indexes-indexes.ensures.value in
    let order = subst IsStrictlyIncreasing (sym c.indexes-indexes.ensures.value) c.indexes-indexes.ensures.order in
    let some = c.requires.some in
    let grows = rises c.indexes-indexes.result.now order (length c.indexes-indexes.result.now - 1) (omega (arith, some, same)) in
    omega (arith, grows)

pub returns-clause-are : goal.returns-clause-are
returns-clause-are c =
    let indexes : List ℕ = c.args.flux.now.indexes in
    let same = c.indexes-indexes.ensures.value in
    let long : length c.indexes-indexes.result.now ≡ length indexes = ap length same in
    let all : length indexes ≤ c.loop-turn.turn = omega (arith, long) in
    let some = c.requires.some in record {
      transitions = ap length c.times.ensures.value;
      turns = omega (arith, long, some);
      least = c.loop-turn.invariant.least_is;
      none_shorter = none-shorter indexes c.loop-turn.turn c.loop-turn.least c.loop-turn.greatest c.loop-turn.invariant all;
      greatest = c.loop-turn.invariant.greatest_is;
      none_longer = none-longer indexes c.loop-turn.turn c.loop-turn.least c.loop-turn.greatest c.loop-turn.invariant all;
      ticks = ap (λ (xs : List ℕ). slice_index xs (length c.indexes-indexes.result.now - 1) - slice_index xs 0) same;
    }

pub returns-clause-bounded : goal.returns-clause-bounded
returns-clause-bounded c =
    let same : length c.indexes-indexes.result.now ≡ length c.args.flux.now.indexes = ap length c.indexes-indexes.ensures.value in
    let order = subst IsStrictlyIncreasing (sym c.indexes-indexes.ensures.value) c.indexes-indexes.ensures.order in
    let within = subst (All (λ (time : ℕ). time < 2 ^ 39)) (sym c.indexes-indexes.ensures.value) c.requires.within in
    let some = c.requires.some in
    let few = c.requires.few in
    let grows = rises c.indexes-indexes.result.now order (length c.indexes-indexes.result.now - 1) (omega (arith, some, same)) in
    let last = All-get_or (λ (time : ℕ). time < 2 ^ 39) c.indexes-indexes.result.now (length c.indexes-indexes.result.now - 1) 0 (omega (arith, some, same)) within in record {
      bytes = c.ranges.bytes.fits;
      some_turn = omega (arith, some, same);
      few_turns = omega (arith, few, same);
      each = omega (arith, grows);
      few_ticks = omega (arith, last);
    }

use Rattle.std.proofs.Common.{◌≡◌, ℕ, ◌+◌, ◌-◌, ◌*◌, ◌/◌, ◌<◌, ◌≤◌, List, length, slice_index, arith, refl, subst, sym, ap, ◌∙◌}
use Rattle.std.proofs.Math.Nat.{mul-le-mul_right}
use Rattle.cell_bits.specs.Run.{IsRun}
use Rattle.phase_loop.specs.State.{LoopState}
use Rattle.phase_loop.specs.inside.Stretch.{stand_next, TakesRuns}
use Rattle.phase_loop.specs.inside.Certain.{fine_at, stand_at, AreEnds}
use Rattle.phase_loop.specs.declared.start.Band.{Band}
use Rattle.phase_loop.specs.declared.phase.stretch.Stand.{Stand}
use Rattle.phase_loop.proofs.Stretches.{guess_short}
use Rattle.phase_loop.proofs.Certain.{bounded_at, oldest_at, stand_at-more, ends_more, ends_met}
use Rattle.phase_loop.proofs.phase.Loop.settle.Goals as goal

pub overflow_mul-length : goal.overflow_mul-length
overflow_mul-length c =
    let k : ℕ = c.loop-taken.taken in
    let here = bounded_at _ _ _ _ _ _ c.requires.rising (c.requires.certain k (omega (arith, c.loop-taken-test.true))) in
    let short : IsRun (slice_index c.args.counts.now (64 + k)) = guess_short c.args.most c.args.counts.now k c.requires.guesses c.loop-taken-test.true (omega (arith, c.told-counts, c.loop-taken-test.true, c.requires.most)) in
    let most : c.from-count.result * c.loop-taken.early.period ≤ 32 * c.loop-taken.early.period = mul-le-mul_right c.loop-taken.early.period (omega (arith, c.from-count.ensures, short.1)) in
    omega (arith, most, here.longest, c.loop-taken.invariant.ends.period)

pub overflow_sub-total : goal.overflow_sub-total
overflow_sub-total c =
    let k : ℕ = c.loop-taken.taken in
    omega (arith, oldest_at _ _ k _ _ _ (omega (arith, c.told-counts, c.loop-taken-test.true, c.requires.most)) (c.requires.certain k (omega (arith, c.loop-taken-test.true))), c.from.ensures, c.loop-taken.invariant.ends.count)

pub overflow_add-total : goal.overflow_add-total
overflow_add-total c =
    let k : ℕ = c.loop-taken.taken in
    let here = bounded_at _ _ _ _ _ _ c.requires.rising (c.requires.certain k (omega (arith, c.loop-taken-test.true))) in
    let short : IsRun (slice_index c.args.counts.now (64 + k)) = guess_short c.args.most c.args.counts.now k c.requires.guesses c.loop-taken-test.true (omega (arith, c.told-counts, c.loop-taken-test.true, c.requires.most)) in
    omega (arith, here.largest, c.loop-taken.invariant.ends.count, c.from-count.ensures, short.1)

pub mean_of-mean-requires-clause-ticks : goal.mean_of-mean-requires-clause-ticks
mean_of-mean-requires-clause-ticks c =
    let k : ℕ = c.loop-taken.taken in
    let next = bounded_at _ _ (k + 1) _ _ _ c.requires.rising (c.requires.certain (k + 1) (omega (arith, c.loop-taken-test.true))) in
    let number : c.args.last + (k + 1) ≡ c.args.last + k + 1 = omega arith in
    let P : ℕ → Type 0 = λ n. 1024 * (slice_index c.args.times.now n - slice_index c.args.times.now (n - 64)) ≤ 356515840 in
    subst P number next.ticks

pub mean_of-mean-requires-clause-least : goal.mean_of-mean-requires-clause-least
mean_of-mean-requires-clause-least c =
    let k : ℕ = c.loop-taken.taken in
    let next = bounded_at _ _ (k + 1) _ _ _ c.requires.rising (c.requires.certain (k + 1) (omega (arith, c.loop-taken-test.true))) in
    omega (arith, next.least, ap (λ (s : Stand). s.count) (stand_at-more c.args.times.now c.args.last c.args.self.now c.args.counts.now k), c.loop-taken.invariant.ends.count, c.from.ensures, c.from-count.ensures)

pub mean_of-mean-requires-clause-largest : goal.mean_of-mean-requires-clause-largest
mean_of-mean-requires-clause-largest c =
    let k : ℕ = c.loop-taken.taken in
    let next = bounded_at _ _ (k + 1) _ _ _ c.requires.rising (c.requires.certain (k + 1) (omega (arith, c.loop-taken-test.true))) in
    omega (arith, next.largest, ap (λ (s : Stand). s.count) (stand_at-more c.args.times.now c.args.last c.args.self.now c.args.counts.now k), c.loop-taken.invariant.ends.count, c.from.ensures, c.from-count.ensures)

pub overflow_add-early : goal.overflow_add-early
overflow_add-early c =
    let k : ℕ = c.loop-taken.taken in
    let here = bounded_at _ _ _ _ _ _ c.requires.rising (c.requires.certain k (omega (arith, c.loop-taken-test.true))) in
    let time = c.requires.within (c.args.last + k) 0 (omega (arith, c.requires.inside, c.loop-taken-test.true)) in
    let short : IsRun (slice_index c.args.counts.now (64 + k)) = guess_short c.args.most c.args.counts.now k c.requires.guesses c.loop-taken-test.true (omega (arith, c.told-counts, c.loop-taken-test.true, c.requires.most)) in
    let most : c.from-count.result * c.loop-taken.early.period ≤ 32 * c.loop-taken.early.period = mul-le-mul_right c.loop-taken.early.period (omega (arith, c.from-count.ensures, short.1)) in
    omega (arith, most, here.longest, here.place, time, c.loop-taken.invariant.ends.period, c.loop-taken.invariant.ends.least)

pub behind-early-requires-clause-ahead : goal.behind-early-requires-clause-ahead
behind-early-requires-clause-ahead c =
    let k : ℕ = c.loop-taken.taken in
    let here = bounded_at _ _ _ _ _ _ c.requires.rising (c.requires.certain k (omega (arith, c.loop-taken-test.true))) in
    let time = c.requires.within (c.args.last + k) 0 (omega (arith, c.requires.inside, c.loop-taken-test.true)) in
    let short : IsRun (slice_index c.args.counts.now (64 + k)) = guess_short c.args.most c.args.counts.now k c.requires.guesses c.loop-taken-test.true (omega (arith, c.told-counts, c.loop-taken-test.true, c.requires.most)) in
    let most : c.from-count.result * c.loop-taken.early.period ≤ 32 * c.loop-taken.early.period = mul-le-mul_right c.loop-taken.early.period (omega (arith, c.from-count.ensures, short.1)) in
    omega (arith, most, here.longest, here.place, time, c.loop-taken.invariant.ends.period, c.loop-taken.invariant.ends.least)

pub overflow_add-late-in-loop-taken : goal.overflow_add-late-in-loop-taken
overflow_add-late-in-loop-taken c =
    let k : ℕ = c.loop-taken.taken in
    let here = bounded_at _ _ _ _ _ _ c.requires.rising (c.requires.certain k (omega (arith, c.loop-taken-test.true))) in
    let time = c.requires.within (c.args.last + k) 0 (omega (arith, c.requires.inside, c.loop-taken-test.true)) in
    let short : IsRun (slice_index c.args.counts.now (64 + k)) = guess_short c.args.most c.args.counts.now k c.requires.guesses c.loop-taken-test.true (omega (arith, c.told-counts, c.loop-taken-test.true, c.requires.most)) in
    let most : c.from-count.result * c.loop-taken.early.period ≤ 32 * c.loop-taken.early.period = mul-le-mul_right c.loop-taken.early.period (omega (arith, c.from-count.ensures, short.1)) in
    omega (arith, most, here.longest, here.place, time, c.loop-taken.invariant.ends.period, c.loop-taken.invariant.ends.least, c.loop-taken.invariant.wide, c.requires.near)

pub behind-late-requires-clause-ahead : goal.behind-late-requires-clause-ahead
behind-late-requires-clause-ahead c =
    let k : ℕ = c.loop-taken.taken in
    let here = bounded_at _ _ _ _ _ _ c.requires.rising (c.requires.certain k (omega (arith, c.loop-taken-test.true))) in
    let time = c.requires.within (c.args.last + k) 0 (omega (arith, c.requires.inside, c.loop-taken-test.true)) in
    let short : IsRun (slice_index c.args.counts.now (64 + k)) = guess_short c.args.most c.args.counts.now k c.requires.guesses c.loop-taken-test.true (omega (arith, c.told-counts, c.loop-taken-test.true, c.requires.most)) in
    let most : c.from-count.result * c.loop-taken.early.period ≤ 32 * c.loop-taken.early.period = mul-le-mul_right c.loop-taken.early.period (omega (arith, c.from-count.ensures, short.1)) in
    omega (arith, most, here.longest, here.place, time, c.loop-taken.invariant.ends.period, c.loop-taken.invariant.ends.least, c.loop-taken.invariant.wide, c.requires.near)

pub loop-taken-preserved : goal.loop-taken-preserved
loop-taken-preserved c =
    let times : List ℕ = c.args.times.now in
    let state : LoopState = c.args.self.now in
    let counts : List ℕ = c.args.counts.now in
    let last : ℕ = c.args.last in
    let k : ℕ = c.loop-taken.taken in
    let s : Stand = stand_at times last state counts k in
    let early : Stand = c.loop-taken.early in
    let late : Stand = c.loop-taken.late in
    let ends : AreEnds early late s = c.loop-taken.invariant.ends in
    let fine : ℕ = fine_at times (last + k + 1) in
    let way : ℕ = fine_at times (last + k + 1) - fine_at times (last + k + 1 - 64) in
    let n : ℕ = c.from-count.result in
    let total : ℕ = early.count - c.from.result + n in
    let mean : ℕ = c.mean_of-mean.result in
    let band : Band = c.self.inside.start.band in
    let total_now : ℕ = s.count - slice_index counts k + slice_index counts (64 + k) in
    let band_is : band ≡ state.band = ap (λ (x : LoopState). x.band) c.self.view_is in
    let n_is : n ≡ slice_index counts (64 + k) = c.from-count.ensures in
    let total_is : total ≡ total_now = omega (arith, ends.count, c.from.ensures, n_is) in
    let ticks : 1024 * (slice_index times (last + k + 1) - slice_index times (last + k + 1 - 64)) ≡ way = omega arith in
    let mean_is : mean ≡ way / total_now = c.mean_of-mean.ensures ∙ ap (λ (m : ℕ). m / total) ticks ∙ ap (λ (m : ℕ). way / m) total_is in
    let same : stand_next band s fine n total mean ≡ stand_at times last state counts (k + 1) =
    ap (λ (b : Band). stand_next b s fine n total mean) band_is
    ∙ ap (λ (m : ℕ). stand_next state.band s fine m total mean) n_is
    ∙ ap (λ (m : ℕ). stand_next state.band s fine (slice_index counts (64 + k)) m mean) total_is
    ∙ ap (λ (m : ℕ). stand_next state.band s fine (slice_index counts (64 + k)) total_now m) mean_is
    ∙ sym (stand_at-more times last state counts k) in
    let early_is : c.behind-early.result ≡ stand_next band early fine n total mean = c.behind-early.ensures early n refl in
    let periods : early.period ≡ late.period = ends.period ∙ sym ends.late_period in
    let late_is : c.behind-late.result ≡ stand_next band late fine n total mean = c.behind-late.ensures late n (ap (λ (p : ℕ). late.place + n * p) periods) in
    let P : Stand → Type 0 = λ x. AreEnds (stand_next band early fine n total mean) (stand_next band late fine n total mean) x in
    let Q : Stand → Type 0 = λ x. AreEnds (stand_next band early fine n total mean) x (stand_at times last state counts (k + 1)) in
    let R : Stand → Type 0 = λ x. AreEnds x c.behind-late.result (stand_at times last state counts (k + 1)) in
    record {
      ends = subst R (sym early_is) (subst Q (sym late_is) (subst P same (ends_more band early late s fine n total mean ends)));
      wide = omega (arith, ap (λ (x : Stand). x.place) early_is, ap (λ (x : Stand). x.place) late_is, ap (λ (p : ℕ). n * p) periods, c.loop-taken.invariant.wide);
    }

pub returns : goal.returns
returns c =
    let end : c.loop-taken.taken ≡ c.args.most = omega (arith, c.loop-taken-test.false, c.loop-taken.auto.taken-end, c.requires.least) in
    let P : ℕ → Type 0 = λ k. AreEnds c.loop-taken.early c.loop-taken.late (stand_at c.args.times.now c.args.last c.args.self.now c.args.counts.now k) in
    let met = ends_met _ _ _ (subst P end c.loop-taken.invariant.ends) (omega (arith, c.if-early-late.false)) in
    let Q : Stand → Type 0 = λ x. TakesRuns c.args.times.now c.args.last c.args.most c.args.self.now x c.args.counts.now in
    record {
      stretch = subst Q met (c.requires.certain c.args.most (omega arith)).runs;
    }

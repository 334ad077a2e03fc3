use Rattle.std.proofs.Common.{arith, ◌≡◌, ℕ, ap, refl, subst, ◌+◌, ◌-◌, ◌*◌, ◌<◌, ◌≤◌, List, [], length, take, drop, set, slice_index, append-nil, length-append}
use Rattle.std.proofs.lemmas.List.{length-set}
use Rattle.std.proofs.Math.Nat.{mul-le-mul_right}
use Rattle.cell_bits.specs.State.{CellsState}
use Rattle.cell_bits.specs.Run.{run_cells}
use Rattle.phase_loop.specs.State.{LoopState}
use Rattle.phase_loop.specs.inside.Stretch.{IsStretch, with_runs}
use Rattle.phase_loop.specs.declared.window.Totals.{Totals}
use Rattle.phase_loop.proofs.Stretches.{IsBand, no_cells, guess_right, guess_short, runs_more, start_band, stretch_begins, stretch_next, stretch_more, stretch_with}
use Rattle.phase_loop.proofs.phase.Loop.take_guesses.Goals as goal

pub loop-taken-init : goal.loop-taken-init
loop-taken-init c =
    let here : c.args.last + 0 ≡ c.args.last = omega arith in
    record {
      whole = omega arith;
      guesses = c.requires.guesses;
      stretch = λ cells short.
          rw here (stretch_with _ _ _ _ _ _ _ _ _
          (stretch_begins _ _ _ _ _ cells c.requires.rising (omega (arith, c.requires.inside)) c.requires.here c.requires.full c.requires.window c.requires.counts
          c.stand-stand.ensures.place.0 c.stand-stand.ensures.place.1 c.stand-stand.ensures.window
          c.stand-stand.ensures.bounds.0 c.stand-stand.ensures.bounds.1 c.stand-stand.ensures.bounds.2 short)
          (append-nil cells.cells) (omega (arith, length-append cells.cells [])));
    }

pub near-requires-clause-shortest : goal.near-requires-clause-shortest
near-requires-clause-shortest c = let s = c.loop-taken.invariant.stretch no_cells (omega arith) in omega (arith, s.shortest)

pub near-requires-clause-longest : goal.near-requires-clause-longest
near-requires-clause-longest c = let s = c.loop-taken.invariant.stretch no_cells (omega arith) in s.longest

pub near-requires-clause-place : goal.near-requires-clause-place
near-requires-clause-place c =
    let s = c.loop-taken.invariant.stretch no_cells (omega arith) in
    let time = c.requires.within (c.args.last + c.loop-taken.taken) 0 s.inside in
    omega (arith, time, s.place)

pub near-requires-clause-guess : goal.near-requires-clause-guess
near-requires-clause-guess c =
    guess_short _ _ _ c.loop-taken.invariant.guesses c.loop-taken-test.true (omega (arith, c.loop-taken.invariant.whole, c.loop-taken-test.true, c.requires.most))

pub overflow_sub-total : goal.overflow_sub-total
overflow_sub-total c =
    let next = stretch_next _ _ _ _ _ c.loop-taken.counts c.loop-taken.taken c.in-Some.count _ _ c.requires.rising (c.loop-taken.invariant.stretch no_cells (omega arith))
    (omega (arith, c.loop-taken-test.true, c.requires.inside)) (omega (arith, c.loop-taken.invariant.whole, c.loop-taken-test.true, c.requires.most))
    c.in-Some.ensures.near (omega (arith, c.in-Some.ensures.count)) c.in-Some.ensures.few in
    rw c.from.ensures next.out

pub overflow_add-total : goal.overflow_add-total
overflow_add-total c =
    let next = stretch_next _ _ _ _ _ c.loop-taken.counts c.loop-taken.taken c.in-Some.count _ _ c.requires.rising (c.loop-taken.invariant.stretch no_cells (omega arith))
    (omega (arith, c.loop-taken-test.true, c.requires.inside)) (omega (arith, c.loop-taken.invariant.whole, c.loop-taken-test.true, c.requires.most))
    c.in-Some.ensures.near (omega (arith, c.in-Some.ensures.count)) c.in-Some.ensures.few in
    rw c.from.ensures (omega (arith, next.exchange.most))

pub mean_of-mean-requires-clause-ticks : goal.mean_of-mean-requires-clause-ticks
mean_of-mean-requires-clause-ticks c =
    let next = stretch_next _ _ _ _ _ c.loop-taken.counts c.loop-taken.taken c.in-Some.count _ _ c.requires.rising (c.loop-taken.invariant.stretch no_cells (omega arith))
    (omega (arith, c.loop-taken-test.true, c.requires.inside)) (omega (arith, c.loop-taken.invariant.whole, c.loop-taken-test.true, c.requires.most))
    c.in-Some.ensures.near (omega (arith, c.in-Some.ensures.count)) c.in-Some.ensures.few in
    omega (arith, next.exchange.fine)

pub mean_of-mean-requires-clause-least : goal.mean_of-mean-requires-clause-least
mean_of-mean-requires-clause-least c =
    let next = stretch_next _ _ _ _ _ c.loop-taken.counts c.loop-taken.taken c.in-Some.count _ _ c.requires.rising (c.loop-taken.invariant.stretch no_cells (omega arith))
    (omega (arith, c.loop-taken-test.true, c.requires.inside)) (omega (arith, c.loop-taken.invariant.whole, c.loop-taken-test.true, c.requires.most))
    c.in-Some.ensures.near (omega (arith, c.in-Some.ensures.count)) c.in-Some.ensures.few in
    rw c.from.ensures next.exchange.least

pub mean_of-mean-requires-clause-largest : goal.mean_of-mean-requires-clause-largest
mean_of-mean-requires-clause-largest c =
    let next = stretch_next _ _ _ _ _ c.loop-taken.counts c.loop-taken.taken c.in-Some.count _ _ c.requires.rising (c.loop-taken.invariant.stretch no_cells (omega arith))
    (omega (arith, c.loop-taken-test.true, c.requires.inside)) (omega (arith, c.loop-taken.invariant.whole, c.loop-taken-test.true, c.requires.most))
    c.in-Some.ensures.near (omega (arith, c.in-Some.ensures.count)) c.in-Some.ensures.few in
    rw c.from.ensures next.exchange.most

pub overflow_sub-ticks-in-loop-taken : goal.overflow_sub-ticks-in-loop-taken
overflow_sub-ticks-in-loop-taken c =
    let up = c.requires.rising (c.args.last + c.loop-taken.taken + 1 - 64) (c.args.last + c.loop-taken.taken + 1) 0 (omega arith) (omega (arith, c.loop-taken-test.true, c.requires.inside)) in
    omega (arith, up)

pub behind-stand-requires-clause-fine : goal.behind-stand-requires-clause-fine
behind-stand-requires-clause-fine c =
    let time = c.requires.within (c.args.last + c.loop-taken.taken + 1) 0 (omega (arith, c.loop-taken-test.true, c.requires.inside)) in
    omega (arith, time)

pub behind-stand-requires-clause-ahead : goal.behind-stand-requires-clause-ahead
behind-stand-requires-clause-ahead c =
    let s = c.loop-taken.invariant.stretch no_cells (omega arith) in
    let time = c.requires.within (c.args.last + c.loop-taken.taken) 0 s.inside in
    let most : c.in-Some.count * c.loop-taken.stand.period ≤ 32 * c.loop-taken.stand.period = mul-le-mul_right c.loop-taken.stand.period c.in-Some.ensures.few in
    omega (arith, most, s.longest, time, s.place, c.in-Some.ensures.ahead)

pub loop-taken-preserved : goal.loop-taken-preserved
loop-taken-preserved c =
    let next = stretch_next _ _ _ _ _ c.loop-taken.counts c.loop-taken.taken c.in-Some.count _ _ c.requires.rising (c.loop-taken.invariant.stretch no_cells (omega arith))
    (omega (arith, c.loop-taken-test.true, c.requires.inside)) (omega (arith, c.loop-taken.invariant.whole, c.loop-taken-test.true, c.requires.most))
    c.in-Some.ensures.near (omega (arith, c.in-Some.ensures.count)) c.in-Some.ensures.few in
    let here : ℕ = c.args.last + c.loop-taken.taken in
    let oldest : ℕ = slice_index c.loop-taken.counts c.loop-taken.taken in
    let counts : List ℕ = set c.loop-taken.counts (64 + c.loop-taken.taken) c.in-Some.count in
    let room_for : 64 + c.loop-taken.taken < length c.loop-taken.counts = omega (arith, c.loop-taken.invariant.whole, c.loop-taken-test.true, c.requires.most) in
    let number : c.args.last + (c.loop-taken.taken + 1) ≡ here + 1 = omega arith in
    let stand_is = c.behind-stand.ensures c.loop-taken.stand c.in-Some.count c.in-Some.ensures.ahead in
    let band_is : c.self.inside.start.band ≡ c.args.self.now.band = ap (λ (s : LoopState). s.band) c.self.view_is in
    let band : IsBand c.args.self.now.band = rw (← band_is) (start_band c.self.inside.start c.self.invariant.start) in
    let ticks : 1024 * (slice_index c.args.times.now (here + 1) - slice_index c.args.times.now (here + 1 - 64)) ≡ 1024 * slice_index c.args.times.now (here + 1) - 1024 * slice_index c.args.times.now (here + 1 - 64) = omega arith in
    let totals : Totals = record {
      fine = 1024 * slice_index c.args.times.now (here + 1) - 1024 * slice_index c.args.times.now (here + 1 - 64);
      count = c.loop-taken.stand.count - oldest + c.in-Some.count;
    } in
    record {
      whole = omega (arith, c.loop-taken.invariant.whole, length-set c.loop-taken.counts (64 + c.loop-taken.taken) c.in-Some.count);
      guesses = guess_right c.args.most c.loop-taken.counts c.loop-taken.taken c.in-Some.count c.loop-taken.invariant.guesses (omega (arith, c.in-Some.ensures.count), c.in-Some.ensures.few);
      stretch = λ cells short.
          let now : CellsState = with_runs cells (take c.loop-taken.taken (drop 64 c.loop-taken.counts)) in
          let longer : CellsState = with_runs cells (take (c.loop-taken.taken + 1) (drop 64 counts)) in
          let longer_are = runs_more cells c.loop-taken.counts c.loop-taken.taken c.in-Some.count room_for in
          let P : List ℕ → Type 0 = λ l. IsStretch c.args.times.now c.args.last here c.args.self.now c.loop-taken.stand l cells now in
          rw (number, stand_is, c.mean_of-mean.ensures, ticks, c.from.ensures, band_is, next.shift.now)
          (stretch_more _ _ _ _ _ totals oldest c.in-Some.count next.shift.rest cells now longer c.requires.rising band
          (subst P next.shift.was (c.loop-taken.invariant.stretch cells short))
          (omega (arith, c.loop-taken-test.true, c.requires.inside)) next.exchange refl
          c.in-Some.ensures.count c.in-Some.ensures.few longer_are
          (omega (arith, ap length longer_are, length-append now.cells (run_cells c.in-Some.count))));
    }

pub returns-clause-stretch : goal.returns-clause-stretch
returns-clause-stretch c cells short =
    let end : c.args.most ≡ c.loop-taken.taken = omega (arith, c.loop-taken-test.false, c.loop-taken.auto.taken-end) in
    rw end (c.loop-taken.invariant.stretch cells short)

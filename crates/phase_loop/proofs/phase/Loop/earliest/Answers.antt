use Rattle.std.proofs.Common.{◌≡◌, ℕ, ◌+◌, ◌-◌, ◌*◌, ◌/◌, ◌≤◌, List, slice_index, arith, sym, ap, ◌∙◌}
use Rattle.phase_loop.specs.Start.{in_band}
use Rattle.phase_loop.specs.State.{LoopState}
use Rattle.phase_loop.specs.inside.Certain.{fine_at, stand_at}
use Rattle.phase_loop.specs.declared.start.Band.{Band}
use Rattle.phase_loop.proofs.Certain.{bounded_at, cells_at, period_at}
use Rattle.phase_loop.proofs.phase.Loop.earliest.Goals as goal

pub overflow_sub-ticks : goal.overflow_sub-ticks
overflow_sub-ticks c = (bounded_at _ _ _ _ _ _ c.requires.rising c.requires.certain).enough

pub mean_of-mean-requires-clause-ticks : goal.mean_of-mean-requires-clause-ticks
mean_of-mean-requires-clause-ticks c = (bounded_at _ _ _ _ _ _ c.requires.rising c.requires.certain).ticks

pub mean_of-mean-requires-clause-least : goal.mean_of-mean-requires-clause-least
mean_of-mean-requires-clause-least c =
    omega (arith, (bounded_at _ _ _ _ _ _ c.requires.rising c.requires.certain).least, c.cells_of-count.ensures, cells_at _ _ _ _ _ _ c.requires.certain)

pub mean_of-mean-requires-clause-largest : goal.mean_of-mean-requires-clause-largest
mean_of-mean-requires-clause-largest c =
    omega (arith, (bounded_at _ _ _ _ _ _ c.requires.rising c.requires.certain).largest, c.cells_of-count.ensures, cells_at _ _ _ _ _ _ c.requires.certain)

pub returns : goal.returns
returns c =
    let times : List ℕ = c.args.times.now in
    let number : ℕ = c.args.last + c.args.taken in
    let state : LoopState = c.args.self.now in
    let way : ℕ = fine_at times number - fine_at times (number - 64) in
    let count : c.cells_of-count.result ≡ (stand_at times c.args.last state c.args.counts.now c.args.taken).count = c.cells_of-count.ensures ∙ cells_at _ _ _ _ _ _ c.requires.certain in
    let ticks : 1024 * (slice_index times number - slice_index times (number - 64)) ≡ way = omega arith in
    let mean : c.mean_of-mean.result ≡ way / (stand_at times c.args.last state c.args.counts.now c.args.taken).count =
    c.mean_of-mean.ensures ∙ ap (λ (m : ℕ). m / c.cells_of-count.result) ticks ∙ ap (λ (m : ℕ). way / m) count in
    let band_is : c.self.inside.start.band ≡ state.band = ap (λ (s : LoopState). s.band) c.self.view_is in
    record {
      least = omega (arith, c.saturating_sub.ensures, c.requires.certain.behind);
      most = omega (arith, c.saturating_sub.ensures, c.requires.certain.ahead);
      period = c.keep.ensures ∙ ap (λ (m : ℕ). in_band c.self.inside.start.band m) mean
          ∙ ap (λ (b : Band). in_band b (way / (stand_at times c.args.last state c.args.counts.now c.args.taken).count)) band_is
          ∙ sym (period_at times c.args.last c.args.taken state c.args.counts.now c.requires.some);
      count = count;
    }

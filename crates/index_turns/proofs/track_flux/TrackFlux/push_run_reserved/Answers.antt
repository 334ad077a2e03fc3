use Rattle.std.proofs.Common.{◌∙◌, ◌++◌, ap, sym, subst}
use Rattle.std.specs.List.Sorted.{IsNonDecreasing}
use Rattle.index_turns.specs.Track.{times_after}
use Rattle.index_turns.proofs.Runs.{times_after-order}
use Rattle.index_turns.proofs.track_flux.TrackFlux.push_run_reserved.Goals as goal

pub invariant_of-self : goal.invariant_of-self
invariant_of-self c =
    let held = ap (λ times. times.items) c.replace-times.ensures.value in
    let items = c.append_run-times.ensures.items ∙ ap (λ items. items ++ times_after c.args.start c.args.intervals.now) held in (
      subst IsNonDecreasing (sym items)
          (times_after-order c.self.inside.times.items c.args.start c.args.intervals.now c.self.invariant.0 (rw (← c.self.view_is) at c.requires.order)),
      c.self.invariant.1,
    )

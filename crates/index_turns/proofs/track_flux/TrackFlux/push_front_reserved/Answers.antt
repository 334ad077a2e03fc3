use Rattle.std.proofs.Common.{◌∙◌, ◌++◌, ap, sym, subst, take}
use Rattle.std.specs.List.Sorted.{IsNonDecreasing}
use Rattle.index_turns.specs.Track.{times_after}
use Rattle.index_turns.proofs.Runs.{times_after-order}
use Rattle.index_turns.proofs.track_flux.TrackFlux.push_front_reserved.Goals as goal

pub invariant_of-self : goal.invariant_of-self
invariant_of-self c =
    let front = take c.args.count c.args.intervals.now in
    let held = ap (λ times. times.items) c.replace-times.ensures.value in
    let items = c.append_front-times.ensures.items ∙ ap (λ items. items ++ times_after c.args.start front) held in (
      subst IsNonDecreasing (sym items)
          (times_after-order c.self.inside.times.items c.args.start front c.self.invariant.0 (rw (← c.self.view_is) at c.requires.order)),
      c.self.invariant.1,
    )

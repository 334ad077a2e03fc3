use Rattle.std.proofs.Common.{◌∙◌, ◌+◌, ◌++◌, ◌∷◌, [], ap, sym, take, arith, append_assoc}
use Rattle.index_turns.specs.Track.{times_after}
use Rattle.index_turns.proofs.Runs.{times_after-step}
use Rattle.index_turns.proofs.track_flux.append_run.Goals as goal

pub overflow_add-time : goal.overflow_add-time
overflow_add-time c =
    let byte = c.type_inv.intervals c.loop-interval.interval-index in
    omega (arith, c.loop-interval.invariant.early, c.from-time.ensures, byte, c.loop-interval-test.true, c.requires.within)

pub loop-interval-preserved : goal.loop-interval-preserved
loop-interval-preserved c =
    let invariant = c.loop-interval.invariant in
    let byte = c.type_inv.intervals c.loop-interval.interval-index in
    let done = times_after c.args.start (take c.loop-interval.interval-index c.args.intervals.now) in
    let step = times_after-step c.args.start c.args.intervals.now c.loop-interval.interval-index c.from-time.result c.loop-interval-test.true c.from-time.ensures in record {
      len = omega (arith, invariant.len, c.push_reserved.ensures.len);
      items = c.push_reserved.ensures.items
          ∙ ap (λ items. items ++ (c.loop-interval.time + c.from-time.result) ∷ []) invariant.items
          ∙ append_assoc c.args.times.items done ((c.loop-interval.time + c.from-time.result) ∷ [])
          ∙ ap (λ time. c.args.times.items ++ (done ++ (time + c.from-time.result) ∷ [])) invariant.time
          ∙ ap (λ times. c.args.times.items ++ times) (sym step.0);
      capacity = c.push_reserved.ensures.capacity ∙ invariant.capacity;
      time = ap (λ time. time + c.from-time.result) invariant.time ∙ omega (arith, step.1);
      early = omega (arith, invariant.early, c.from-time.ensures, byte);
    }

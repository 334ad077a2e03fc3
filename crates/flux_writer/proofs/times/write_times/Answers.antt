use Rattle.std.proofs.Common.{◌≡◌, ℕ, List, [], All, ◌≤◌, ◌<◌, ◌+◌, ◌^◌, Option, Err, length, take, ap, sym, ◌∙◌, subst, arith}
use Rattle.std.proofs.lemmas.List.{take_all}
use Rattle.std.proofs.lemmas.Result.{on_ok_weaker, on_err_weaker}
use Rattle.flux_base.specs.Moments.{Puts}
use Rattle.flux_base.specs.World.{sink_at}
use Rattle.flux_base.specs.lemmas.Counting.{Counts-none, Counts-then}
use Rattle.track_rings.specs.Rings.{last_in}
use Rattle.flux_writer.specs.inside.Writing.{IsWritten}
use Rattle.flux_writer.proofs.Progress.{IsReady-start, IsReady-next, IsReady-fits, IsWritten-start, IsWritten-next, IsWritten-fails, next_in_order, ticks_are}
use Rattle.flux_writer.proofs.ReadsBack.{all_early}
use Rattle.flux_writer.proofs.Rising.{Rises-from_increasing}
use Rattle.flux_writer.proofs.Trailing.{end-all, end-part, end-time, left-all, part_of_capture, trailing-fails}
use Rattle.flux_writer.proofs.times.write_times.Goals as goal

pub loop-time-init : goal.loop-time-init
loop-time-init g c =
    let e = c.new-stream.ensures in
    let left = e.indexes ∙ ticks_are c.indexes.result.now ∙ c.indexes.ensures.value in
    record {
      written = IsWritten-start (g.W.Sink.written c.args.sink.now) c.new-stream.result.piece c.new-stream.result.position
          c.new-stream.result.time c.new-stream.result.indexes c.args.flux.now.indexes e.piece e.position e.time left;
      ready = IsReady-start c.new-stream.result.position c.new-stream.result.time c.new-stream.result.indexes
          c.args.flux.now.indexes e.position e.time left c.indexes.ensures.order;
      counts = Counts-none _;
    }

pub transition-requires-clause-order : goal.transition-requires-clause-order
transition-requires-clause-order g c =
    next_in_order c.args.flux.now.times c.times-time-items.result.now c.loop-time.time-index c.times-time-items.ensures.value
    c.loop-time-test.true c.loop-time.stream.time c.times-time-items.ensures.order c.loop-time.invariant.written.time_is

pub transition-requires-clause-few : goal.transition-requires-clause-few
transition-requires-clause-few g c =
    let k = c.loop-time.time-index in
    let value = c.times-time-items.ensures.value in
    let inside : k < length c.args.flux.now.times = omega (arith, c.loop-time-test.true, ap length value) in
    let early = c.requires.early k 0 inside in
    IsReady-fits c.loop-time.stream.position c.loop-time.stream.time k _ c.loop-time.stream.indexes c.loop-time.invariant.ready
    (next_in_order c.args.flux.now.times c.times-time-items.result.now k value
    c.loop-time-test.true c.loop-time.stream.time c.times-time-items.ensures.order c.loop-time.invariant.written.time_is)
    (rw value early) (omega (arith, inside, c.requires.few))

pub loop-time-preserved : goal.loop-time-preserved
loop-time-preserved g c =
    let k = c.loop-time.time-index in
    let value = c.times-time-items.ensures.value in
    let ready = IsReady-next c.loop-time.stream.position c.loop-time.stream.time k _ c.loop-time.stream.indexes c.loop-time.invariant.ready
    (next_in_order c.args.flux.now.times c.times-time-items.result.now k value
    c.loop-time-test.true c.loop-time.stream.time c.times-time-items.ensures.order c.loop-time.invariant.written.time_is) in
    record {
      written = IsWritten-next c.args.flux.now.times c.times-time-items.result.now k value
          c.loop-time-test.true (g.W.Sink.written c.args.sink.now) (g.W.Sink.written c.loop-time.sink) (g.W.Sink.written c.transition.new.sink)
          c.args.flux.now.indexes c.loop-time.stream.piece c.loop-time.stream.position c.loop-time.stream.time c.loop-time.stream.indexes
          c.loop-time.invariant.written c.transition.new.self.piece c.transition.new.self.position c.transition.new.self.time
          c.transition.new.self.indexes c.in-Ok.ensures.holds.ok c.in-Ok.ensures.position c.in-Ok.ensures.time c.in-Ok.ensures.indexes;
      ready = rw (c.in-Ok.ensures.position, c.in-Ok.ensures.time, c.in-Ok.ensures.indexes) ready;
      counts = Counts-then _ c.loop-time.invariant.counts c.in-Ok.ensures.holds.counts;
    }

pub returns-in-Err-clause-puts : goal.returns-in-Err-clause-puts
returns-in-Err-clause-puts g c = record {
  ok = tt;
  err = part_of_capture (g.W.Sink.written c.args.sink.now) (g.W.Sink.written c.transition.new.sink) c.args.flux.now.times c.args.flux.now.indexes
      c.indexes.ensures.order
      (IsWritten-fails c.args.flux.now.times c.times-time-items.result.now c.loop-time.time-index c.times-time-items.ensures.value
      c.loop-time-test.true (g.W.Sink.written c.args.sink.now) (g.W.Sink.written c.loop-time.sink) (g.W.Sink.written c.transition.new.sink)
      c.args.flux.now.indexes c.loop-time.stream.piece c.loop-time.stream.position c.loop-time.stream.time c.loop-time.stream.indexes
      c.loop-time.invariant.written c.in-Err.ensures.holds.err);
  counts = Counts-then _ c.loop-time.invariant.counts c.in-Err.ensures.holds.counts;
}

pub returns-in-Err-clause-ended : goal.returns-in-Err-clause-ended
returns-in-Err-clause-ended g c ends =
    subst (λ bytes. Puts {T = Unit {0}} (sink_at g.W.Sink c.args.sink.now) (sink_at g.W.Sink c.transition.new.sink) bytes (Err c.in-Err.failed))
    (c.capture_law.ensures.same c.args.flux.now.times c.args.flux.now.indexes c.indexes.ensures.order ends) (returns-in-Err-clause-puts g c)

-- all are written
module _ (times items : List ℕ) (k : ℕ) (same : items ≡ times) (over : length items ≤ k) (old new : Option (List ℕ))
    (indexes held : List ℕ) (position time : ℕ) (left : List ℕ)
    (w : IsWritten old new [] 0 0 indexes held position time left (take k times)) where
  all : IsWritten old new [] 0 0 indexes held position time left times
  all =
      let past : length times ≤ k = omega (arith, over, ap length same) in
      subst (IsWritten old new [] 0 0 indexes held position time left) (take_all k times past) w

pub write_trailing-requires-clause-near : goal.write_trailing-requires-clause-near
write_trailing-requires-clause-near g c =
    let times = c.args.flux.now.times in
    let n = c.loop-time.stream in
    let written = all times c.times-time-items.result.now c.loop-time.time-index c.times-time-items.ensures.value c.loop-time-test.false
    (g.W.Sink.written c.args.sink.now) (g.W.Sink.written c.loop-time.sink) c.args.flux.now.indexes n.piece n.position n.time n.indexes c.loop-time.invariant.written in
    let near = left-all (last_in times + 2 ^ 32) times c.args.flux.now.indexes
    (all_early c.args.flux.now.indexes (last_in times + 2 ^ 32) (Rises-from_increasing c.args.flux.now.indexes c.indexes.ensures.order) c.requires.near) in
    subst (λ t. All (λ index. index < t + 2 ^ 32) n.indexes) (end-time times ∙ sym written.time_is)
    (subst (All (λ index. index < last_in times + 2 ^ 32)) (sym written.indexes_are) near)

pub returns-in-Err-write_trailing-clause-puts : goal.returns-in-Err-write_trailing-clause-puts
returns-in-Err-write_trailing-clause-puts g c =
    let times = c.args.flux.now.times in
    let n = c.loop-time.stream in
    let written = all times c.times-time-items.result.now c.loop-time.time-index c.times-time-items.ensures.value c.loop-time-test.false
    (g.W.Sink.written c.args.sink.now) (g.W.Sink.written c.loop-time.sink) c.args.flux.now.indexes n.piece n.position n.time n.indexes c.loop-time.invariant.written in
    record {
      ok = tt;
      err = trailing-fails (g.W.Sink.written c.args.sink.now) (g.W.Sink.written c.loop-time.sink) (g.W.Sink.written c.write_trailing.new.sink)
          c.args.flux.now.indexes n.piece n.position n.time n.indexes times written c.indexes.ensures.order c.in-Err-write_trailing.ensures.holds.err;
      counts = Counts-then _ c.loop-time.invariant.counts c.in-Err-write_trailing.ensures.holds.counts;
    }

pub returns-in-Err-write_trailing-clause-ended : goal.returns-in-Err-write_trailing-clause-ended
returns-in-Err-write_trailing-clause-ended g c ends =
    subst (λ bytes. Puts {T = Unit {0}} (sink_at g.W.Sink c.args.sink.now) (sink_at g.W.Sink c.write_trailing.new.sink) bytes (Err c.in-Err-write_trailing.failed))
    (c.capture_law.ensures.same c.args.flux.now.times c.args.flux.now.indexes c.indexes.ensures.order ends) (returns-in-Err-write_trailing-clause-puts g c)

pub returns-in-Ok-write_trailing-clause-puts : goal.returns-in-Ok-write_trailing-clause-puts
returns-in-Ok-write_trailing-clause-puts g c =
    let times = c.args.flux.now.times in
    let indexes = c.args.flux.now.indexes in
    let n = c.loop-time.stream in
    let start = g.W.Sink.written c.args.sink.now in
    let middle = g.W.Sink.written c.loop-time.sink in
    let behind = g.W.Sink.written c.write_trailing.new.sink in
    let last = g.W.Sink.written c.finish.new.sink in
    let written = all times c.times-time-items.result.now c.loop-time.time-index c.times-time-items.ensures.value c.loop-time-test.false
    start middle indexes n.piece n.position n.time n.indexes c.loop-time.invariant.written in
    let order = c.indexes.ensures.order in
    let held = c.write_trailing.new.self.piece in
    let position = c.write_trailing.new.self.position in
    let t = c.in-Ok-write_trailing.ensures in
    record {
      ok = on_ok_weaker c.finish.result
          (end-all start middle behind indexes n.piece n.position n.time n.indexes times written order last held t.holds.ok position t.position) c.finish.ensures.ok;
      err = on_err_weaker c.finish.result
          (end-part start middle behind indexes n.piece n.position n.time n.indexes times written order last held t.holds.ok position t.position) c.finish.ensures.err;
      counts = Counts-then _ (Counts-then _ c.loop-time.invariant.counts t.holds.counts) c.finish.ensures.counts;
    }

pub returns-in-Ok-write_trailing-clause-ended : goal.returns-in-Ok-write_trailing-clause-ended
returns-in-Ok-write_trailing-clause-ended g c ends =
    subst (λ bytes. Puts {T = Unit {0}} (sink_at g.W.Sink c.args.sink.now) (sink_at g.W.Sink c.finish.new.sink) bytes c.finish.result)
    (c.capture_law.ensures.same c.args.flux.now.times c.args.flux.now.indexes c.indexes.ensures.order ends)
    (returns-in-Ok-write_trailing-clause-puts g c)

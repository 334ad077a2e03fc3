use Rattle.std.proofs.Common.{◌≡◌, ◌≤◌, ◌+◌, ◌*◌, ◌++◌, take, vec_len}
use Rattle.std.specs.List.{sum}
use Rattle.std.specs.Vec.{vec_capacity}
use Rattle.index_turns.specs.Track.{times_after}
use Rattle.index_turns.proofs.track_flux.append_run.Given as goal

abbrev pub invariant-loop-interval : goal.invariant-loop-interval
invariant-loop-interval l = record {
  len : vec_len l.times ≡ vec_len l.initial.times + l.interval-index;
  items : l.times.items ≡ l.initial.times.items ++ times_after l.start (take l.interval-index l.intervals);
  capacity : vec_capacity l.times ≡ vec_capacity l.initial.times;
  time : l.time ≡ l.start + sum (take l.interval-index l.intervals);
  early : l.time ≤ l.start + 255 * l.interval-index;
}

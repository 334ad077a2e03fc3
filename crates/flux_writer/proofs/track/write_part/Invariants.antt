use Rattle.std.proofs.Common.{false, ◌≤◌, ◌+◌, ◌-◌}
use Rattle.flux_base.specs.Counts.{Counts}
use Rattle.flux_base.specs.World.{sink_counts}
use Rattle.flux_writer.specs.inside.Writing.{IsReadyAt, IsWritten, times_between}
use Rattle.flux_writer.proofs.track.write_part.Given as goal

abbrev pub invariant-loop-place : goal.invariant-loop-place
invariant-loop-place g l = record {
  from : l.part.from ≤ l.place;
  to : l.place ≤ l.part.to;
  written : IsWritten (g.W.Sink.written l.initial.sink) (g.W.Sink.written l.sink)
      l.initial.stream.piece l.initial.stream.position l.initial.stream.time l.initial.stream.indexes
      l.stream.piece l.stream.position l.stream.time l.stream.indexes
      (times_between l.cells.cells l.part.from l.place l.part.number l.nominal);
  ready : IsReadyAt l.nominal l.stream.position l.stream.time (l.part.number + (l.place - l.part.from)) l.stream.indexes;
  counts : Counts false (sink_counts g.W.Sink l.initial.sink) (sink_counts g.W.Sink l.sink);
}

abbrev pub decreases-loop-place : goal.decreases-loop-place
decreases-loop-place g l = l.part.to - l.place

use Rattle.std.proofs.Common.{false, [], take}
use Rattle.flux_base.specs.Counts.{Counts}
use Rattle.flux_base.specs.World.{sink_counts}
use Rattle.flux_writer.specs.inside.Writing.{IsReady, IsWritten}
use Rattle.flux_writer.proofs.times.write_times.Given as goal

abbrev pub invariant-loop-time : goal.invariant-loop-time
invariant-loop-time g l = record {
  written : IsWritten (g.W.Sink.written l.fn.sink) (g.W.Sink.written l.sink) [] 0 0 l.fn.flux.indexes
      l.stream.piece l.stream.position l.stream.time l.stream.indexes (take l.time-index l.fn.flux.times);
  ready : IsReady l.stream.position l.stream.time l.time-index l.stream.indexes;
  counts : Counts false (sink_counts g.W.Sink l.fn.sink) (sink_counts g.W.Sink l.sink);
}

use Rattle.std.proofs.Common.{false, replicate}
use Rattle.flux_base.specs.Counts.{Counts}
use Rattle.flux_base.specs.World.{sink_counts}
use Rattle.flux_writer.specs.inside.Gathering.{Gathers}
use Rattle.flux_writer.proofs.stream.write_overflows.Given as goal

abbrev pub invariant-loop : goal.invariant-loop
invariant-loop g l = record {
  bytes : Gathers (g.W.Sink.written l.initial.sink) (g.W.Sink.written l.sink) l.initial.piece l.piece (replicate l.counter 11);
  counts : Counts false (sink_counts g.W.Sink l.initial.sink) (sink_counts g.W.Sink l.sink);
}

use Rattle.std.proofs.Common.{false, ◌≡◌, ◌≤◌, ◌<◌, ◌+◌, ◌^◌, All, length}
use Rattle.flux_base.specs.Counts.{Counts}
use Rattle.flux_base.specs.World.{sink_counts}
use Rattle.flux_writer.proofs.Trailing.{TrailingWritten}
use Rattle.flux_writer.proofs.stream.StreamWriter.write_trailing.Given as goal

abbrev pub invariant-loop-index : goal.invariant-loop-index
invariant-loop-index g l = record {
  written : TrailingWritten (g.W.Sink.written l.initial.sink) (g.W.Sink.written l.sink) l.initial.self.piece l.self.piece
      l.initial.self.position l.initial.self.time l.initial.self.indexes l.self.indexes;
  position : l.self.position ≡ l.initial.self.position;
  time : l.self.time ≡ l.initial.self.time;
  begun : All (λ index. l.initial.self.time ≤ index) l.self.indexes;
  near : All (λ index. index < l.initial.self.time + 2 ^ 32) l.self.indexes;
  counts : Counts false (sink_counts g.W.Sink l.initial.sink) (sink_counts g.W.Sink l.sink);
}

abbrev pub decreases-loop-index : goal.decreases-loop-index
decreases-loop-index g l = length l.self.indexes

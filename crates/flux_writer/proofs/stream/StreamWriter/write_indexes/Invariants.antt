use Rattle.std.proofs.Common.{false, ◌≡◌, ◌≤◌, All, length}
use Rattle.flux_base.specs.Counts.{Counts}
use Rattle.flux_base.specs.World.{sink_counts}
use Rattle.flux_writer.proofs.Steps.{IndexesWritten}
use Rattle.flux_writer.proofs.stream.StreamWriter.write_indexes.Given as goal

abbrev pub invariant-loop-index : goal.invariant-loop-index
invariant-loop-index g l = record {
  written : IndexesWritten (g.W.Sink.written l.initial.sink) (g.W.Sink.written l.sink) l.initial.self.piece l.self.piece
      l.initial.self.position l.initial.self.time l.end l.initial.self.indexes l.self.indexes;
  position : l.self.position ≡ l.initial.self.position;
  time : l.self.time ≡ l.initial.self.time;
  begun : All (λ index. l.initial.self.time ≤ index) l.self.indexes;
  counts : Counts false (sink_counts g.W.Sink l.initial.sink) (sink_counts g.W.Sink l.sink);
}

abbrev pub decreases-loop-index : goal.decreases-loop-index
decreases-loop-index g l = length l.self.indexes

use Rattle.std.proofs.Common.{false, ◌≡◌, ◌≤◌, ◌+◌, ◌-◌}
use Rattle.flux_base.specs.Counts.{Counts}
use Rattle.flux_base.specs.World.{sink_counts}
use Rattle.cell_bits.specs.Word.{word}
use Rattle.flux_writer.specs.inside.Writing.{IsReadyAt, IsWritten, times_between}
use Rattle.flux_writer.proofs.track.write_word.Given as goal

abbrev pub invariant-loop-ahead : goal.invariant-loop-ahead
invariant-loop-ahead g l = record {
  left : l.left ≤ l.fn.part.to - l.fn.part.from;
  ahead : l.ahead ≡ word l.cells.cells (l.fn.part.to - l.left) l.left;
  written : IsWritten (g.W.Sink.written l.initial.sink) (g.W.Sink.written l.sink)
      l.initial.stream.piece l.initial.stream.position l.initial.stream.time l.initial.stream.indexes
      l.stream.piece l.stream.position l.stream.time l.stream.indexes
      (times_between l.cells.cells l.fn.part.from (l.fn.part.to - l.left) l.fn.part.number l.nominal);
  ready : IsReadyAt l.nominal l.stream.position l.stream.time (l.fn.part.number + ((l.fn.part.to - l.left) - l.fn.part.from)) l.stream.indexes;
  counts : Counts false (sink_counts g.W.Sink l.initial.sink) (sink_counts g.W.Sink l.sink);
}

abbrev pub decreases-loop-ahead : goal.decreases-loop-ahead
decreases-loop-ahead g l = l.ahead

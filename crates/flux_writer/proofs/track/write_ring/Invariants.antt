use Rattle.std.proofs.Common.{false, ◌≡◌, ◌+◌, ◌*◌, [], length}
use Rattle.flux_base.specs.Counts.{Counts}
use Rattle.flux_base.specs.World.{sink_counts}
use Rattle.flux_writer.specs.Written.{quarter}
use Rattle.flux_writer.specs.inside.Writing.{IsReadyAt, IsWritten}
use Rattle.flux_writer.proofs.Rings.{times_of_cells}
use Rattle.flux_writer.proofs.track.write_ring.Given as goal
use Rattle.flux_writer.specs.lemmas.TrackParts.{cells_after}

abbrev pub invariant-loop : goal.invariant-loop
invariant-loop g l = record {
  number : l.number ≡ quarter l.ring.cells + l.counter * length l.ring.cells;
  written : IsWritten (g.W.Sink.written l.fn.sink) (g.W.Sink.written l.sink) [] 0 0 l.fn.stream.indexes
      l.stream.piece l.stream.position l.stream.time l.stream.indexes (times_of_cells l.nominal 0 (cells_after l.ring.cells l.counter));
  ready : IsReadyAt l.nominal l.stream.position l.stream.time l.number l.stream.indexes;
  counts : Counts false (sink_counts g.W.Sink l.fn.sink) (sink_counts g.W.Sink l.sink);
}

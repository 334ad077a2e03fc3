use Rattle.std.proofs.Common.{false, List}
use Rattle.std.specs.List.{flat_map, range_with_len}
use Rattle.std.specs.Io.KnownBytes.{Appends}
use Rattle.flux_base.specs.Counts.{Counts}
use Rattle.flux_base.specs.World.{sink_counts}
use Rattle.turn_merge.specs.Book.{StandsFor}
use Rattle.turn_merge.specs.Readings.{NotedReading}
use Rattle.flux_engine.specs.Tracks.{image_piece}
use Rattle.flux_engine.proofs.writing.write_image.Given as goal

abbrev pub invariant-loop-number : goal.invariant-loop-number
invariant-loop-number g l = record {
  grew : (readings : List NotedReading) → StandsFor l.book readings
      → Appends (g.W.Sink.written l.initial.image) (g.W.Sink.written l.image) (flat_map (image_piece l.format l.track readings) (range_with_len 0 l.number));
  counts : Counts false (sink_counts g.W.Sink l.initial.image) (sink_counts g.W.Sink l.image);
}

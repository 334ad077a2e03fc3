use Rattle.std.proofs.Common.{false, List}
use Rattle.std.specs.List.{flat_map, range_with_len}
use Rattle.std.specs.Io.KnownBytes.{Appends}
use Rattle.flux_base.specs.Counts.{Counts}
use Rattle.flux_base.specs.World.{sink_counts}
use Rattle.turn_merge.specs.Book.{StandsFor}
use Rattle.turn_merge.specs.Readings.{NotedReading}
use Rattle.disk_summary.proofs.Tracks.{sector_text}
use Rattle.disk_summary.proofs.note_writer.write_sectors.Given as goal

abbrev pub invariant-loop-index : goal.invariant-loop-index
invariant-loop-index g l = record {
  grew : (readings : List NotedReading) → StandsFor l.book readings
      → Appends (g.N.Sink.written l.initial.notes) (g.N.Sink.written l.notes) (flat_map (sector_text l.track readings) (range_with_len l.sectors.first l.index));
  counts : Counts false (sink_counts g.N.Sink l.initial.notes) (sink_counts g.N.Sink l.notes);
}

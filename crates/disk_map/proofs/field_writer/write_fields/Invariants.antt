use Rattle.std.proofs.Common.{false, ◌≡◌, List}
use Rattle.std.specs.Prelude.{map}
use Rattle.std.specs.List.{flat_map, range_with_len}
use Rattle.std.specs.Io.KnownBytes.{Appends}
use Rattle.flux_base.specs.Counts.{Counts}
use Rattle.flux_base.specs.World.{sink_counts}
use Rattle.turn_merge.specs.Book.{StandsFor}
use Rattle.turn_merge.specs.Readings.{NotedReading, verdict}
use Rattle.flux_engine.specs.Tracks.{totals_of}
use Rattle.flux_engine.specs.Writing.{IsSum}
use Rattle.disk_map.specs.Texts.{field_by}
use Rattle.disk_map.proofs.field_writer.write_fields.Given as goal

abbrev pub invariant-loop-index : goal.invariant-loop-index
invariant-loop-index g l = record {
  grew : (readings : List NotedReading) → StandsFor l.book readings
      → Appends (g.P.Sink.written l.initial.picture) (g.P.Sink.written l.picture) (flat_map (λ sector. field_by l.naming l.layout l.track sector (verdict readings sector)) (range_with_len l.sectors.first l.index));
  counted : (readings : List NotedReading) → StandsFor l.book readings
      → l.totals ≡ totals_of (map (verdict readings) (range_with_len l.sectors.first l.index));
  sum : IsSum l.totals;
  number : l.totals.sectors ≡ l.index;
  counts : Counts false (sink_counts g.P.Sink l.initial.picture) (sink_counts g.P.Sink l.picture);
}

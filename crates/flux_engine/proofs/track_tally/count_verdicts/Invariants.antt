use Rattle.std.proofs.Common.{◌≡◌, List}
use Rattle.std.specs.Prelude.{map}
use Rattle.std.specs.List.{range_with_len}
use Rattle.turn_merge.specs.Book.{StandsFor}
use Rattle.turn_merge.specs.Readings.{NotedReading, verdict}
use Rattle.flux_engine.specs.Tracks.{totals_of}
use Rattle.flux_engine.specs.Writing.{IsSum}
use Rattle.flux_engine.proofs.track_tally.count_verdicts.Given as goal

abbrev pub invariant-loop-index : goal.invariant-loop-index
invariant-loop-index l = record {
  counted : (readings : List NotedReading) → StandsFor l.book readings
      → l.totals ≡ totals_of (map (verdict readings) (range_with_len l.sectors.first l.index));
  sum : IsSum l.totals;
  number : l.totals.sectors ≡ l.index;
}

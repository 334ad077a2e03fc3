-- A track that one stream captures.
use Rattle.std.specs.Prelude.{ℕ, List}
use Rattle.std.proofs.Common.{ap}
use Rattle.flux_base.specs.declared.track.TrackId.{TrackId}
use Rattle.sector_images.specs.declared.format.Format.{Format}
use Rattle.turn_merge.specs.Readings.{NotedReading}
use Rattle.flux_engine.specs.Captured.{AreReadingsAt}
use Rattle.library_calls.specs.Disks.{IsPart}
use Rattle.flux_engine.specs.Tracks.{part_of}

-- a track with one stream comes to what its readings come to
pub one_capture : (format : Format) (track : TrackId) (times indexes : List ℕ) (readings : List NotedReading)
    → AreReadingsAt format track times indexes 0 readings → IsPart format track times indexes (part_of format track readings)
one_capture format track times indexes readings a = record {
  found = a.found;
  all = a.all;
  is = ap (part_of format track) a.are;
}

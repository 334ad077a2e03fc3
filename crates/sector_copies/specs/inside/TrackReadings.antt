-- Steps of the crate's own functions, over what `TrackReadings` defines.
use Rattle.std.specs.Prelude.{◌≡◌, ℕ, ◌++◌}
use Rattle.flux_engine.specs.Captured.{AreReadingsOf}
use Rattle.flux_engine.specs.Plans.{Seen, passed_one}
use Rattle.flux_engine.specs.Recordings.{track_at}
use Rattle.flux_engine.specs.declared.plan.Clocks.TheVariants.{Both}
use Rattle.flux_engine.specs.declared.plan.Rule.TheVariants.{Controller}
use Rattle.dump_reading.specs.DumpStreams.{GaveOf}
use Rattle.dump_reading.specs.Files.{ShelfNow}
use Rattle.dump_reading.specs.Outcomes.{DumpDisk}
use Rattle.sector_copies.specs.inside.Notes.{NotesOf}
use Rattle.sector_copies.specs.TrackReadings.{SectorRoomState}

-- The file of the track in the next dump was read or passed over: of whatever list has all readings
-- of it, those of the sector were noted.
pub record HasReadNext (disk : DumpDisk) (n q : ℕ) (start now : ShelfNow)
    (old new : SectorRoomState) : Type 0 where
  pub here : Seen
  pub gave : GaveOf disk.stepping disk.dumps (track_at disk.format n) q start now here
  pub noted : NotesOf
      (AreReadingsOf Controller Both disk.format (track_at disk.format n) here.times here.indexes q)
      old.known new.known
  pub passed_are : new.passed ≡ old.passed ++ passed_one q here.passed

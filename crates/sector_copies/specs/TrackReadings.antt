-- What the dumps of a disk say of one sector.
use Rattle.std.specs.Prelude.{◌≡◌, ◌≤◌, ◌<◌, ℕ, List, [], length}
use Rattle.cell_bits.specs.State.{CellsState, room}
use Rattle.sector_images.specs.Formats.{row}
use Rattle.sector_images.specs.Places.{IsSector, tracks}
use Rattle.sector_images.specs.declared.format.Format.{Format}
use Rattle.turn_merge.specs.Readings.{NotedReading, good_ones, verdict}
use Rattle.turn_merge.specs.declared.verdict.Verdict.{Verdict}
use Rattle.flux_engine.specs.Counts.{lost_in}
use Rattle.flux_engine.specs.LoopProgress.{lost_count, seen_at}
use Rattle.flux_engine.specs.Plans.{AreCaptures, Seen, Streams, joined, passed_to}
use Rattle.flux_engine.specs.Recordings.{track_at}
use Rattle.flux_engine.specs.Room.{MOST_CELLS}
use Rattle.flux_engine.specs.declared.gathered_track.PassedStream.{PassedStream}
use Rattle.dump_reading.specs.DumpStreams.{DumpTracks, HaveComeOf}
use Rattle.dump_reading.specs.Files.{ShelfNow}
use Rattle.dump_reading.specs.Outcomes.{DumpDisk}
use Rattle.dump_reading.specs.Reports.{dump_plan}
use Rattle.sector_copies.specs.Copies.{Copy, copies_over}
use Rattle.sector_copies.specs.Notes.{SectorKnown, SectorStandsFor, of_sector}

-- the format, the track's number, what is known of the sector, and which of the
-- track's streams were passed over
pub record SectorRoomState : Type 0 where
  pub format : Format
  pub number : ℕ
  pub known : SectorKnown
  pub passed : List PassedStream

-- nothing was read in the room yet
pub record IsEmptyRoom (format : Format) (number sector : ℕ) (room : SectorRoomState) : Type 0 where
  pub format_is : room.format ≡ format
  pub number_is : room.number ≡ number
  pub sector_is : room.known.sector ≡ sector
  pub none : SectorStandsFor room.known []
  pub no_passed : room.passed ≡ []

-- the room is for one of the format's sectors, and has room for the
-- most cells that a stream can make
pub record IsRoomFor (format : Format) (number : ℕ) (known : SectorKnown)
    (cells : CellsState) : Type 0 where
  pub low : number < length (tracks format)
  pub sector : IsSector format (track_at format number) known.sector
  pub size : known.book.size ≡ (row format).sector_size
  pub cells_fit : MOST_CELLS ≤ room cells

-- the room stays one for the same sector
pub record IsSameRoom (old new : SectorRoomState) : Type 0 where
  pub format : new.format ≡ old.format
  pub number : new.number ≡ old.number
  pub sector : new.known.sector ≡ old.known.sector

-- one track of a disk's dumps, by itself: it stands for all
abbrev pub of_track : DumpDisk → (n : ℕ) → DumpTracks
of_track disk n =
    record {
      stepping = disk.stepping;
      dumps = disk.dumps;
      count = length disk.dumps;
      track_of = λ _. track_at disk.format n;
    }

-- what came of its files, dump by dump, as streams of a disk
abbrev pub streams_of : List Seen → Streams
streams_of came n q = seen_at came q

-- The files of the track in the first q dumps came: what is known stands for all readings of the
-- sector in them, whatever lists have all readings of each, and these were passed over.
pub record HasReadTo (disk : DumpDisk) (n sector q : ℕ) (start now : ShelfNow) (known : SectorKnown)
    (passed : List PassedStream) : Type 0 where
  pub came : List Seen
  pub many : length came ≡ q
  pub are : HaveComeOf (of_track disk n) start now came
  pub stands : (captures : List (List NotedReading)) → length captures ≡ q
      → AreCaptures (dump_plan (length disk.dumps)) disk.format (streams_of came) n captures
      → SectorStandsFor known (of_sector sector (joined captures))
  pub passed_are : passed ≡ passed_to (streams_of came) n q
  pub lost_are : lost_in passed ≡ lost_count came

-- What is told of a sector of a track that has these readings: the verdict over those of the
-- sector, and the distinct contents of its good ones.
pub record TellsOf (sector : ℕ) (readings : List NotedReading) (outcome : Verdict)
    (copies : List Copy) : Type 0 where
  pub verdict_is : outcome ≡ verdict readings sector
  pub copies_are : copies ≡ copies_over (good_ones readings sector)

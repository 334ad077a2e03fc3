use Rattle.std.proofs.Common.{◌≤◌, ◌*◌, length}
use Rattle.dump_reading.specs.Files.{shelf_at}
use Rattle.dump_reading.specs.Outcomes.{disk_of}
use Rattle.flux_engine.specs.Room.{MOST_READINGS}
use Rattle.sector_copies.specs.TrackReadings.{HasReadTo, IsSameRoom}
use Rattle.sector_copies.proofs.reading.read_sector.Given as goal

abbrev pub invariant-loop-capture : goal.invariant-loop-capture
invariant-loop-capture g l = record {
  read : HasReadTo (disk_of l.dumps l.initial.room.format) l.initial.room.number l.initial.room.known.sector l.capture
      (shelf_at g.H.Source g.H.Shelf l.initial.shelf)
      (shelf_at g.H.Source g.H.Shelf l.shelf)
      l.room.known l.room.passed;
  same : IsSameRoom l.initial.room l.room;
  few : l.room.known.book.notes ≤ 2 * MOST_READINGS * l.capture;
  passed : length l.room.passed ≤ l.capture;
}

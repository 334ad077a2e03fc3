use Rattle.std.proofs.Common.{◌≡◌, ◌+◌, false, true, length}
use Rattle.flux_base.specs.Counts.{Counts}
use Rattle.flux_base.specs.World.{sink_counts}
use Rattle.flux_engine.specs.Counts.{AreCountsBelow}
use Rattle.sector_images.specs.Places.{tracks}
use Rattle.dump_reading.specs.Files.{shelf_at}
use Rattle.dump_reading.specs.inside.Looks.{HasLooked}
use Rattle.dump_reading.specs.Outcomes.{disk_by}
use Rattle.dump_reading.proofs.TrackNumbers.{beside_before}
use Rattle.dump_reading.proofs.beside.read_beside.Given as goal

abbrev pub invariant-loop-number : goal.invariant-loop-number
invariant-loop-number g l = record {
  looked : (h : HasLooked (g.B.BesideWriter.lines_of l.writer) (disk_by l.clocks l.fn.looks l.dumps l.initial.room.format)
      (shelf_at g.H.Source g.H.Shelf l.initial.shelf)
      (shelf_at g.H.Source g.H.Shelf l.shelf)
      l.initial.room l.room (g.N.Sink.written l.initial.notes) (g.N.Sink.written l.notes))
      × (length h.beside.others ≡ beside_before l.dumps.stepping l.initial.room.format l.number);
  second : (g.D.SecondSinks.now l.second).sound ≡ true
      → ((g.D.SecondSinks.now l.initial.second).sound ≡ true)
      × ((g.D.SecondSinks.now l.second).image ≡ (g.D.SecondSinks.now l.initial.second).image)
      × ((h : HasLooked (g.B.BesideWriter.second_lines_of l.writer) (disk_by l.clocks l.fn.looks l.dumps l.initial.room.format)
      (shelf_at g.H.Source g.H.Shelf l.initial.shelf)
      (shelf_at g.H.Source g.H.Shelf l.shelf)
      l.initial.room l.room (g.D.SecondSinks.now l.initial.second).notes (g.D.SecondSinks.now l.second).notes)
      × (length h.beside.others ≡ beside_before l.dumps.stepping l.initial.room.format l.number));
  format : l.room.format ≡ l.initial.room.format;
  below : AreCountsBelow l.room (length (tracks l.initial.room.format) + l.number);
  counts : Counts false (sink_counts g.N.Sink l.initial.notes) (sink_counts g.N.Sink l.notes);
}

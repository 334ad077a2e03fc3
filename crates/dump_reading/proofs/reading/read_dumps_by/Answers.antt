use Rattle.std.proofs.Common.{inr}
use Rattle.dump_reading.specs.Files.{shelf_at}
use Rattle.dump_reading.specs.Outcomes.{disk_by}
use Rattle.dump_reading.proofs.Ends.{all-wrote, end-cut}
use Rattle.dump_reading.proofs.reading.read_dumps_by.Goals as goal

pub returns-in-Ok-end_report-clause-says : goal.returns-in-Ok-end_report-clause-says
returns-in-Ok-end_report-clause-says g c = (
  rw c.room_format.ensures at c.in-None.ensures.told,
  all-wrote (disk_by c.args.clocks c.args.looks c.args.dumps.now c.args.room.now.format)
      (shelf_at g.H.Source g.H.Shelf c.args.shelf.now)
      (shelf_at g.H.Source g.H.Shelf c.read_dump_tracks-read.new.shelf)
      (g.W.Sink.written c.args.image.now) (g.W.Sink.written c.read_dump_tracks-read.new.image)
      (g.N.Sink.written c.args.notes.now) (g.N.Sink.written c.read_dump_tracks-read.new.notes) (g.N.Sink.written c.end_report.new.notes) c.in-Ok.totals
      c.in-Ok.ensures.ok c.in-Ok-end_report.ensures.puts.ok,
)

pub returns-in-Err-end_report-clause-says : goal.returns-in-Err-end_report-clause-says
returns-in-Err-end_report-clause-says g c =
    inr (end-cut (disk_by c.args.clocks c.args.looks c.args.dumps.now c.args.room.now.format)
    (shelf_at g.H.Source g.H.Shelf c.args.shelf.now)
    (shelf_at g.H.Source g.H.Shelf c.read_dump_tracks-read.new.shelf)
    (g.W.Sink.written c.args.image.now) (g.W.Sink.written c.read_dump_tracks-read.new.image)
    (g.N.Sink.written c.args.notes.now) (g.N.Sink.written c.read_dump_tracks-read.new.notes) (g.N.Sink.written c.end_report.new.notes) c.in-Ok.totals
    c.in-Ok.ensures.ok c.in-Err-end_report.ensures.puts.err)

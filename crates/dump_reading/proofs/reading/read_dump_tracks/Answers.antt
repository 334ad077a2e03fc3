use Rattle.std.proofs.Common.{inl, inr}
use Rattle.flux_engine.specs.declared.track_part.PartFault.TheVariants.{ImageFault, NotesFault}
use Rattle.dump_reading.specs.Files.{shelf_at}
use Rattle.dump_reading.specs.Outcomes.{disk_by}
use Rattle.dump_reading.proofs.Ends.{all-read, beside-wrote, cut-wrote, second-read}
use Rattle.dump_reading.proofs.reading.read_dump_tracks.Goals as goal

pub returns-in-Err-ImageFault-clause-err : goal.returns-in-Err-ImageFault-clause-err
returns-in-Err-ImageFault-clause-err g c =
    cut-wrote (g.O.TrackWriter.part_of c.args.writer.now) (disk_by c.args.clocks c.args.looks c.args.dumps.now c.args.room.now.format)
    (shelf_at g.H.Source g.H.Shelf c.args.shelf.now)
    (shelf_at g.H.Source g.H.Shelf c.decode_tracks.new.source)
    (g.W.Sink.written c.args.image.now) (g.W.Sink.written c.decode_tracks.new.image) (g.N.Sink.written c.args.notes.now) (g.N.Sink.written c.decode_tracks.new.notes)
    c.decode_tracks.new.room c.decode_tracks.new.totals ImageFault (rw c.in-Err-ImageFault.field-0-is at c.in-Err-ImageFault.ensures.err)

pub returns-in-Err-NotesFault-clause-err : goal.returns-in-Err-NotesFault-clause-err
returns-in-Err-NotesFault-clause-err g c =
    inl (cut-wrote (g.O.TrackWriter.part_of c.args.writer.now) (disk_by c.args.clocks c.args.looks c.args.dumps.now c.args.room.now.format)
    (shelf_at g.H.Source g.H.Shelf c.args.shelf.now)
    (shelf_at g.H.Source g.H.Shelf c.decode_tracks.new.source)
    (g.W.Sink.written c.args.image.now) (g.W.Sink.written c.decode_tracks.new.image) (g.N.Sink.written c.args.notes.now) (g.N.Sink.written c.decode_tracks.new.notes)
    c.decode_tracks.new.room c.decode_tracks.new.totals NotesFault (rw c.in-Err-NotesFault.field-0-is at c.in-Err-NotesFault.ensures.err))

pub returns-in-Ok-read_beside-clause-ok : goal.returns-in-Ok-read_beside-clause-ok
returns-in-Ok-read_beside-clause-ok g c =
    rw (c.unread.ensures, c.lost.ensures, c.told_others.ensures, c.whole_others.ensures)
    (all-read (g.O.TrackWriter.part_of c.args.writer.now) (disk_by c.args.clocks c.args.looks c.args.dumps.now c.args.room.now.format)
    (shelf_at g.H.Source g.H.Shelf c.args.shelf.now)
    (shelf_at g.H.Source g.H.Shelf c.decode_tracks.new.source)
    (g.W.Sink.written c.args.image.now) (g.W.Sink.written c.decode_tracks.new.image) (g.N.Sink.written c.args.notes.now) (g.N.Sink.written c.decode_tracks.new.notes)
    c.decode_tracks.new.room c.decode_tracks.new.totals
    (g.B.BesideWriter.lines_of c.args.beside.now)
    (shelf_at g.H.Source g.H.Shelf c.read_beside.new.shelf)
    c.read_beside.new.room (g.N.Sink.written c.read_beside.new.notes) c.in-Ok.ensures.ok c.in-Ok-read_beside.ensures.ok)

pub returns-in-Ok-read_beside-clause-second : goal.returns-in-Ok-read_beside-clause-second
returns-in-Ok-read_beside-clause-second g c =
    rw (c.unread.ensures, c.lost.ensures, c.told_others.ensures, c.whole_others.ensures)
    (λ sound.
    let s0 = g.D.SecondSinks.now c.args.second.now in
    let s = g.D.SecondSinks.now c.decode_tracks.new.second in
    let s' = g.D.SecondSinks.now c.read_beside.new.second in
    let beside = c.in-Ok-read_beside.ensures.second sound in
    let w = c.in-Ok.ensures.second beside.0 in
    let disk = disk_by c.args.clocks c.args.looks c.args.dumps.now c.args.room.now.format in
    let start = shelf_at g.H.Source g.H.Shelf c.args.shelf.now in
    let last = shelf_at g.H.Source g.H.Shelf c.read_beside.new.shelf in
    second-read (g.O.TrackWriter.second_part_of c.args.writer.now) (g.B.BesideWriter.second_lines_of c.args.beside.now) disk start last s0 s s' _ beside.1
    (all-read (g.O.TrackWriter.second_part_of c.args.writer.now) disk start
    (shelf_at g.H.Source g.H.Shelf c.decode_tracks.new.source)
    s0.image s.image s0.notes s.notes
    c.decode_tracks.new.room c.decode_tracks.new.totals
    (g.B.BesideWriter.second_lines_of c.args.beside.now)
    last
    c.read_beside.new.room s'.notes w beside.2))

pub returns-in-Err-clause-err : goal.returns-in-Err-clause-err
returns-in-Err-clause-err g c =
    inr (beside-wrote (g.O.TrackWriter.part_of c.args.writer.now) (disk_by c.args.clocks c.args.looks c.args.dumps.now c.args.room.now.format)
    (shelf_at g.H.Source g.H.Shelf c.args.shelf.now)
    (shelf_at g.H.Source g.H.Shelf c.decode_tracks.new.source)
    (g.W.Sink.written c.args.image.now) (g.W.Sink.written c.decode_tracks.new.image) (g.N.Sink.written c.args.notes.now) (g.N.Sink.written c.decode_tracks.new.notes)
    c.decode_tracks.new.room c.decode_tracks.new.totals
    (g.B.BesideWriter.lines_of c.args.beside.now)
    (shelf_at g.H.Source g.H.Shelf c.read_beside.new.shelf)
    c.read_beside.new.room (g.N.Sink.written c.read_beside.new.notes) c.in-Ok.ensures.ok c.in-Err.ensures.err)

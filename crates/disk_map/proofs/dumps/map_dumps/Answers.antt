use Rattle.std.proofs.Common.{true, false, refl}
use Rattle.flux_base.specs.lemmas.Blaming.{CountsBy-image, CountsBy-then}
use Rattle.flux_engine.specs.lemmas.Blamed.{CountsBy-unnoted}
use Rattle.dump_reading.specs.Beside.{no_lines}
use Rattle.dump_reading.specs.Files.{shelf_at}
use Rattle.dump_reading.specs.Outcomes.{disk_of}
use Rattle.disk_map.specs.Maps.{no_track_lines}
use Rattle.disk_map.proofs.DrawnDumps.{drawn-all, drawn-stopped, no-foot, no-top}
use Rattle.disk_map.proofs.dumps.map_dumps.Goals as goal

pub returns-in-Err-clause-says : goal.returns-in-Err-clause-says
returns-in-Err-clause-says g c =
    no-top (disk_of c.args.dumps.now c.args.room.now.format) (shelf_at g.H.Source g.H.Shelf c.args.shelf.now) (g.P.Sink.written c.args.picture.now)
    (g.P.Sink.written c.begin_drawing.new.picture) (rw c.room_format-format.ensures at c.in-Err.ensures.err)

pub returns-in-Err-read_dump_tracks-clause-says : goal.returns-in-Err-read_dump_tracks-clause-says
returns-in-Err-read_dump_tracks-clause-says g c =
    drawn-stopped (disk_of c.args.dumps.now c.args.room.now.format) (shelf_at g.H.Source g.H.Shelf c.args.shelf.now) (g.P.Sink.written c.args.picture.now)
    (shelf_at g.H.Source g.H.Shelf c.read_dump_tracks.new.shelf)
    (g.P.Sink.written c.begin_drawing.new.picture) (rw c.room_format-format.ensures at c.in-Ok.ensures.ok) (g.P.Sink.written c.read_dump_tracks.new.image)
    _ _ _ _ c.in-Err-read_dump_tracks.fault (CountsBy-unnoted _ refl c.in-Err-read_dump_tracks.ensures.blames) c.in-Err-read_dump_tracks.ensures.err

pub returns-in-Ok-end_drawing-clause-says : goal.returns-in-Ok-end_drawing-clause-says
returns-in-Ok-end_drawing-clause-says g c =
    let drew = drawn-all no_track_lines no_lines (disk_of c.args.dumps.now c.args.room.now.format)
    (shelf_at g.H.Source g.H.Shelf c.args.shelf.now) (g.P.Sink.written c.args.picture.now) _ (shelf_at g.H.Source g.H.Shelf c.read_dump_tracks.new.shelf)
    (g.P.Sink.written c.begin_drawing.new.picture) (rw c.room_format-format.ensures at c.in-Ok.ensures.ok) (g.P.Sink.written c.read_dump_tracks.new.image)
    _ (g.P.Sink.written c.end_drawing.new.picture) c.in-Ok-read_dump_tracks.totals
    c.in-Ok-read_dump_tracks.ensures.ok (rw c.room_format-format.ensures at c.in-Ok-end_drawing.ensures.puts.ok) in
    (rw (c.room_format-format.ensures, c.in-None.is) at c.find_empty.ensures.told, drew.drew)

pub returns-in-Err-end_drawing-clause-says : goal.returns-in-Err-end_drawing-clause-says
returns-in-Err-end_drawing-clause-says g c =
    no-foot (disk_of c.args.dumps.now c.args.room.now.format) (shelf_at g.H.Source g.H.Shelf c.args.shelf.now) (g.P.Sink.written c.args.picture.now)
    (shelf_at g.H.Source g.H.Shelf c.read_dump_tracks.new.shelf)
    (g.P.Sink.written c.begin_drawing.new.picture) (rw c.room_format-format.ensures at c.in-Ok.ensures.ok) (g.P.Sink.written c.read_dump_tracks.new.image)
    _ _ (g.P.Sink.written c.end_drawing.new.picture) c.in-Ok-read_dump_tracks.totals
    c.in-Ok-read_dump_tracks.ensures.ok (rw c.room_format-format.ensures at c.in-Err-end_drawing.ensures.puts.err)

pub returns-in-Err-clause-blames : goal.returns-in-Err-clause-blames
returns-in-Err-clause-blames g c = CountsBy-image _ _ true c.in-Err.ensures.counts

pub returns-in-Err-read_dump_tracks-clause-blames : goal.returns-in-Err-read_dump_tracks-clause-blames
returns-in-Err-read_dump_tracks-clause-blames g c =
    CountsBy-then _ (CountsBy-image _ _ false c.in-Ok.ensures.counts) (CountsBy-unnoted _ refl c.in-Err-read_dump_tracks.ensures.blames)

pub returns-in-Ok-end_drawing-clause-blames : goal.returns-in-Ok-end_drawing-clause-blames
returns-in-Ok-end_drawing-clause-blames g c =
    CountsBy-then _ (CountsBy-then _ (CountsBy-image _ _ false c.in-Ok.ensures.counts) (CountsBy-unnoted _ refl c.in-Ok-read_dump_tracks.ensures.blames))
    (CountsBy-image _ _ false c.in-Ok-end_drawing.ensures.puts.counts)

pub returns-in-Err-end_drawing-clause-blames : goal.returns-in-Err-end_drawing-clause-blames
returns-in-Err-end_drawing-clause-blames g c =
    CountsBy-then _ (CountsBy-then _ (CountsBy-image _ _ false c.in-Ok.ensures.counts) (CountsBy-unnoted _ refl c.in-Ok-read_dump_tracks.ensures.blames))
    (CountsBy-image _ _ true c.in-Err-end_drawing.ensures.puts.counts)

use Rattle.std.proofs.Common.{List, ℕ, Some, [], refl, subst}
use Rattle.std.specs.Prelude.{codes}
use Rattle.std.specs.Io.KnownBytes.{Appends}
use Rattle.disk_map.specs.Dumps.{dumps_part_with}
use Rattle.disk_map.specs.Texts.{top_by}
use Rattle.disk_summary.specs.Dumps.{noted_beside, noted_track}
use Rattle.flux_engine.specs.Room.{RoomState}
use Rattle.dump_reading.specs.Beside.{beside_lines}
use Rattle.dump_reading.specs.Files.{shelf_at}
use Rattle.dump_reading.specs.Outcomes.{HasTracksBy, HasTracksSecond, disk_of}
use Rattle.dump_reading.specs.Reports.{read_part}
use Rattle.disk_archive.specs.Reading.{HasReadTo}
use Rattle.disk_archive.specs.Second.{second_of}
use Rattle.disk_archive.proofs.Readings.{stopped-some, tracks-some}
use Rattle.disk_archive.proofs.Shelves.{none-often}
use Rattle.disk_archive.proofs.reading.read_into.Goals as goal

pub returns-in-Some-clause-err : goal.returns-in-Some-clause-err
returns-in-Some-clause-err g c =
    (rw c.in-Some.is at c.find_empty.ensures.told, (0, none-often (shelf_at g.H.Source g.H.Shelf c.args.shelf.now)))

pub returns-in-Err-clause-err : goal.returns-in-Err-clause-err
returns-in-Err-clause-err g c = (0, none-often (shelf_at g.H.Source g.H.Shelf c.args.shelf.now))

pub returns-in-Err-read_dump_tracks-clause-err : goal.returns-in-Err-read_dump_tracks-clause-err
returns-in-Err-read_dump_tracks-clause-err g c =
    let start = shelf_at g.H.Source g.H.Shelf c.args.shelf.now in
    let now = shelf_at g.H.Source g.H.Shelf c.read_dump_tracks.new.shelf in
    stopped-some (disk_of c.args.dumps.now c.args.room.now.format) start now _ _ _ _ c.in-Err-read_dump_tracks.field-0 c.in-Err-read_dump_tracks.ensures.err

pub returns-in-Err-end_texts-clause-err : goal.returns-in-Err-end_texts-clause-err
returns-in-Err-end_texts-clause-err g c =
    let start = shelf_at g.H.Source g.H.Shelf c.args.shelf.now in
    let now = shelf_at g.H.Source g.H.Shelf c.read_dump_tracks.new.shelf in
    tracks-some (disk_of c.args.dumps.now c.args.room.now.format) start now _ _ _ _ c.in-Ok-read_dump_tracks.totals c.in-Ok-read_dump_tracks.ensures.ok

pub returns-in-Ok-end_texts-clause-some : goal.returns-in-Ok-end_texts-clause-some
returns-in-Ok-end_texts-clause-some g c = rw c.in-None.is at c.find_empty.ensures.told

pub returns-in-Ok-end_texts-clause-ok : goal.returns-in-Ok-end_texts-clause-ok
returns-in-Ok-end_texts-clause-ok g c =
    let start = shelf_at g.H.Source g.H.Shelf c.args.shelf.now in
    let now = shelf_at g.H.Source g.H.Shelf c.read_dump_tracks.new.shelf in
    let disk = disk_of c.args.dumps.now c.args.format in
    let fresh = c.requires.fresh in
    let totals = c.in-Ok-read_dump_tracks.totals in
    let image' = c.read_dump_tracks.new.image.written in
    let before = c.args.report.now.written in
    let mid = c.read_dump_tracks.new.notes.written in
    let begun = second_of (record c.args.second.now { picture = c.begin_drawing.new.picture }) in
    let tracks = subst (λ (i : List ℕ). HasTracksBy read_part beside_lines disk start now (Some i) (Some image') (Some before) (Some mid) totals) fresh.no_image
    (subst (λ (r : RoomState). HasTracksBy read_part beside_lines (disk_of c.args.dumps.now r.format) start now (Some c.args.image.now.written) (Some image') (Some before) (Some mid) totals) fresh.room_is
    c.in-Ok-read_dump_tracks.ensures.ok) in
    let second = subst (λ (r : RoomState). HasTracksSecond (dumps_part_with noted_track) noted_beside (disk_of c.args.dumps.now r.format) start now begun (second_of c.read_dump_tracks.new.second) totals) fresh.room_is
    c.in-Ok-read_dump_tracks.ensures.second in
    let begins = subst (λ (p : List ℕ). Appends (Some p) begun.image (top_by (codes "read") c.args.format)) fresh.no_picture c.in-Ok.ensures.ok in
    let whole = c.in-Ok-end_texts.ensures disk start now image' before begun refl (record { begins = begins; first = tracks; second_tracks = second }) in
    subst (λ (n : List ℕ). HasReadTo disk start now image' before c.end_texts.new.report.written (Some n) c.end_texts.new.second totals) fresh.no_notes whole

use Rattle.std.proofs.Common.{List, ℕ, ◌++◌, ap, refl, ◌∙◌}
use Rattle.dump_reading.specs.Files.{shelf_at}
use Rattle.dump_reading.specs.Outcomes.{disk_of}
use Rattle.scp_notes.specs.Dumps.{texts_of}
use Rattle.disk_archive.proofs.Readings.{not-noted, read-behind, unread-behind}
use Rattle.disk_archive.proofs.reading.read_disk.Goals as goal

pub returns-in-Err-note_dumps-clause-err : goal.returns-in-Err-note_dumps-clause-err
returns-in-Err-note_dumps-clause-err g c =
    let start = shelf_at g.H.Source g.H.Shelf c.args.shelf.now in
    let mid = shelf_at g.H.Source g.H.Shelf c.note_dumps.new.shelf in
    not-noted (disk_of c.args.dumps.now c.args.format) start mid mid _ _ _ c.in-Err-note_dumps.ensures

pub returns-in-Ok-read_into-clause-ok : goal.returns-in-Ok-read_into-clause-ok
returns-in-Ok-read_into-clause-ok g c =
    let start = shelf_at g.H.Source g.H.Shelf c.args.shelf.now in
    let mid = shelf_at g.H.Source g.H.Shelf c.note_dumps.new.shelf in
    let now = shelf_at g.H.Source g.H.Shelf c.read_into.new.shelf in
    let did = c.in-Ok-note_dumps.ensures in
    read-behind (disk_of c.args.dumps.now c.args.format) start mid now _ _ c.in-Ok-note_dumps.failed did _ _ c.read_into.new.second
    (did.puts.ok ∙ ap (λ (t : List ℕ). t ++ texts_of did.noted) c.in-Ok.ensures.no_report) refl refl refl c.in-Ok-read_into.ensures.some c.in-Ok-read_into.ensures.ok

pub returns-clause-err : goal.returns-clause-err
returns-clause-err g c =
    let start = shelf_at g.H.Source g.H.Shelf c.args.shelf.now in
    let mid = shelf_at g.H.Source g.H.Shelf c.note_dumps.new.shelf in
    let now = shelf_at g.H.Source g.H.Shelf c.read_into.new.shelf in
    unread-behind (disk_of c.args.dumps.now c.args.format) start mid now _ _ c.in-Ok-note_dumps.failed c.in-Ok-note_dumps.ensures c.in-Err-read_into.fault c.in-Err-read_into.ensures.err

pub read_into-requires-clause-fresh : goal.read_into-requires-clause-fresh
read_into-requires-clause-fresh g c = record {
  room_is = c.in-Ok.ensures.room_is;
  no_image = c.in-Ok.ensures.no_image;
  no_report = refl;
  no_picture = c.in-Ok.ensures.no_picture;
  no_notes = c.in-Ok.ensures.no_notes;
}

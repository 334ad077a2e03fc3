use Rattle.dump_reading.specs.Files.{shelf_at}
use Rattle.disk_archive.proofs.Turned.{turns-noted, turns-unnoted}
use Rattle.disk_archive.proofs.reading.add_turns.Goals as goal

pub returns-in-Ok-note_turns-clause-ok : goal.returns-in-Ok-note_turns-clause-ok
returns-in-Ok-note_turns-clause-ok g c =
    let start = shelf_at g.H.Source g.H.Shelf c.args.shelf.now in
    let now = shelf_at g.H.Source g.H.Shelf c.note_turns.new.shelf in
    let did = c.in-Ok-note_turns.ensures.noted in
    turns-noted c.args.dumps.now start now _ _ c.in-Ok-note_turns.failed did _ _ did.puts.ok

pub returns-clause-err : goal.returns-clause-err
returns-clause-err g c =
    let start = shelf_at g.H.Source g.H.Shelf c.args.shelf.now in
    let now = shelf_at g.H.Source g.H.Shelf c.note_turns.new.shelf in
    turns-unnoted c.args.dumps.now start now _ _ _ c.in-Err-note_turns.ensures.noted

use Rattle.dump_reading.specs.Files.{shelf_at}
use Rattle.dump_reading.specs.Outcomes.{disk_of}
use Rattle.disk_archive.proofs.Turned.{read-turned, unturned}
use Rattle.disk_archive.proofs.reading.read_texts.Goals as goal

pub returns-in-Ok-add_turns-clause-ok : goal.returns-in-Ok-add_turns-clause-ok
returns-in-Ok-add_turns-clause-ok g c =
    let start = shelf_at g.H.Source g.H.Shelf c.args.shelf.now in
    let mid = shelf_at g.H.Source g.H.Shelf c.read_disk.new.shelf in
    let now = shelf_at g.H.Source g.H.Shelf c.add_turns.new.shelf in
    read-turned (disk_of c.args.dumps.now c.args.format) start mid now c.in-Ok.texts c.in-Ok.ensures.ok _ c.in-Ok-add_turns.turned c.in-Ok-add_turns.ensures.ok

pub returns-in-Err-add_turns-clause-err : goal.returns-in-Err-add_turns-clause-err
returns-in-Err-add_turns-clause-err g c =
    let start = shelf_at g.H.Source g.H.Shelf c.args.shelf.now in
    let mid = shelf_at g.H.Source g.H.Shelf c.read_disk.new.shelf in
    let now = shelf_at g.H.Source g.H.Shelf c.add_turns.new.shelf in
    unturned (disk_of c.args.dumps.now c.args.format) start mid now c.in-Ok.texts c.in-Ok.ensures.ok c.in-Err-add_turns.fault c.in-Err-add_turns.ensures.err

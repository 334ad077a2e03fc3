use Rattle.dump_reading.specs.Files.{shelf_at}
use Rattle.disk_archive.specs.Finding.{asked_of}
use Rattle.disk_archive.proofs.Holding.{not-found}
use Rattle.disk_archive.proofs.archiving.hold_disk.Goals as goal

pub returns-in-Err-clause-err : goal.returns-in-Err-clause-err
returns-in-Err-clause-err g c =
    not-found (asked_of c.args.asked.now) (shelf_at g.H.Source g.H.Shelf c.args.shelf.now) (shelf_at g.H.Source g.H.Shelf c.find_disk.new.shelf) c.in-Err.fault c.in-Err.ensures.err

pub returns-in-Ok-hold_found-clause-ok : goal.returns-in-Ok-hold_found-clause-ok
returns-in-Ok-hold_found-clause-ok g c = c.in-Ok-hold_found.ensures.ok (shelf_at g.H.Source g.H.Shelf c.args.shelf.now) c.in-Ok.ensures.ok

pub returns-in-Err-hold_found-clause-err : goal.returns-in-Err-hold_found-clause-err
returns-in-Err-hold_found-clause-err g c = c.in-Err-hold_found.ensures.err (shelf_at g.H.Source g.H.Shelf c.args.shelf.now) c.in-Ok.ensures.ok

use Rattle.dump_reading.specs.Files.{shelf_at}
use Rattle.disk_archive.proofs.Bests.{is-asked}
use Rattle.disk_archive.proofs.finding.ask.Goals as goal

pub returns-in-Ok-identify-clause-ok : goal.returns-in-Ok-identify-clause-ok
returns-in-Ok-identify-clause-ok g c =
    is-asked c.args.dump.now (shelf_at g.H.Source g.H.Shelf c.args.shelf.now) (shelf_at g.H.Source g.H.Shelf c.identify.new.shelf) _ _ c.in-Ok-identify.identity c.in-Ok-identify.ensures.says

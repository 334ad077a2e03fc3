use Rattle.dump_reading.specs.Files.{shelf_at}
use Rattle.disk_archive.specs.Finding.{asked_of}
use Rattle.disk_archive.proofs.Bests.{found-asked}
use Rattle.disk_archive.proofs.finding.find_disk.Goals as goal

pub returns-in-Some-clause-ok : goal.returns-in-Some-clause-ok
returns-in-Some-clause-ok g c = found-asked (asked_of c.args.asked.now) (shelf_at g.H.Source g.H.Shelf c.args.shelf.now) c.in-Some.candidate c.in-Some.is

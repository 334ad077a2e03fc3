use Rattle.dump_reading.specs.Files.{shelf_at}
use Rattle.disk_archive.specs.Finding.{FailedIf, HaveNoBest}
use Rattle.disk_archive.proofs.finding.find_best.Given as goal

abbrev pub invariant-loop-number : goal.invariant-loop-number
invariant-loop-number g l =
    HaveNoBest l.dumps l.number (shelf_at g.H.Source g.H.Shelf l.initial.shelf) (shelf_at g.H.Source g.H.Shelf l.shelf)
    × FailedIf l.failed (shelf_at g.H.Source g.H.Shelf l.initial.shelf) (shelf_at g.H.Source g.H.Shelf l.shelf)

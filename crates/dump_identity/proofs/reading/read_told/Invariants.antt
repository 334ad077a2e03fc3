use Rattle.std.proofs.Common.{◌≤◌, List}
use Rattle.std.specs.Vec.{vec_capacity}
use Rattle.flux_engine.specs.Plans.{Seen}
use Rattle.dump_reading.specs.Files.{shelf_at}
use Rattle.dump_identity.specs.inside.Outcomes.{HaveRead}
use Rattle.dump_identity.proofs.reading.read_told.Given as goal

abbrev pub invariant-loop-number : goal.invariant-loop-number
invariant-loop-number g l = record {
  read : (came : List Seen)
      × HaveRead l.dump (shelf_at g.H.Source g.H.Shelf l.initial.shelf) (shelf_at g.H.Source g.H.Shelf l.shelf) l.initial.disks l.disks l.passed.items l.number came;
  room : 200 ≤ vec_capacity l.passed;
}

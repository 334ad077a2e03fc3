use Rattle.dump_reading.specs.Files.{shelf_at}
use Rattle.flux_base.specs.World.{sink_at}
use Rattle.scp_notes.specs.inside.Noted.{HasNoted}
use Rattle.scp_notes.proofs.dumps.note_dumps.Given as goal

abbrev pub invariant-loop-number : goal.invariant-loop-number
invariant-loop-number g l = HasNoted l.dumps l.number (shelf_at g.H.Source g.H.Shelf l.initial.shelf) (shelf_at g.H.Source g.H.Shelf l.shelf)
    (sink_at g.N.Sink l.initial.notes) (sink_at g.N.Sink l.notes) l.fails

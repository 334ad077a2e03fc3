use Rattle.flux_base.specs.World.{sink_at}
use Rattle.dump_reading.specs.Files.{shelf_at}
use Rattle.disk_summary.proofs.TurnNotes.{WroteNoted}
use Rattle.disk_summary.proofs.turn_notes.note_turns.Given as goal

abbrev pub invariant-loop-number : goal.invariant-loop-number
invariant-loop-number g l =
    WroteNoted l.dumps l.number (shelf_at g.H.Source g.H.Shelf l.initial.shelf) (shelf_at g.H.Source g.H.Shelf l.shelf)
    (sink_at g.N.Sink l.initial.notes) (sink_at g.N.Sink l.notes) l.failed

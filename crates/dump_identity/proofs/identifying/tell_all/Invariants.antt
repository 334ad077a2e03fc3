use Rattle.std.proofs.Common.{false, ℕ, List, Option, take}
use Rattle.flux_base.specs.Counts.{Counts}
use Rattle.flux_base.specs.World.{sink_counts}
use Rattle.flux_engine.specs.Plans.{Seen}
use Rattle.track_shelf.specs.Files.{File}
use Rattle.dump_identity.specs.Candidates.{by_reading}
use Rattle.dump_identity.specs.inside.Outcomes.{AreKnown, HaveTold}
use Rattle.dump_identity.proofs.identifying.tell_all.Given as goal

abbrev pub invariant-loop-number : goal.invariant-loop-number
invariant-loop-number g l = record {
  told : (dump : List ℕ) (told : Option (List File)) (came : ℕ → List Seen)
      → AreKnown dump told came (by_reading l.tried.passed.items l.tried.again.items) l.tried.disks.items l.tried.held.items
      → HaveTold dump told came (take l.number l.tried.disks.items) (g.W.Sink.written l.initial.lines) (g.W.Sink.written l.lines) l.best;
  counts : Counts false (sink_counts g.W.Sink l.initial.lines) (sink_counts g.W.Sink l.lines);
}

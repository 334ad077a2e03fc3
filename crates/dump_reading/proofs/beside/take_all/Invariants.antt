use Rattle.std.proofs.Common.{◌≡◌, ◌≤◌, ◌*◌, ℕ, List, length}
use Rattle.flux_base.specs.declared.track.TrackId.{TrackId}
use Rattle.flux_engine.specs.Captured.{count_of_clocks}
use Rattle.flux_engine.specs.Plans.{Seen}
use Rattle.flux_engine.specs.Recordings.{track_at}
use Rattle.dump_reading.specs.Beside.{of_tracks}
use Rattle.dump_reading.specs.DumpStreams.{HaveComeOf}
use Rattle.dump_reading.specs.Files.{ShelfNow, shelf_at}
use Rattle.dump_reading.specs.inside.Looks.{HasTakenTo}
use Rattle.dump_reading.specs.Reports.{plan_by}
use Rattle.dump_reading.proofs.beside.take_all.Given as goal

abbrev pub invariant-loop-dump : goal.invariant-loop-dump
invariant-loop-dump g l = record {
  taken : (track_of : ℕ → TrackId) (number : ℕ) (start : ShelfNow) (before : List Seen) → track_of number ≡ l.track → length before ≡ number * length l.dumps.names.now
      → HaveComeOf (of_tracks l.dumps.stepping l.dumps.names.now track_of) start
      (shelf_at g.H.Source g.H.Shelf l.initial.shelf) before
      → HasTakenTo (plan_by l.clocks (length l.dumps.names.now)) (track_at l.initial.room.format l.initial.room.started) (of_tracks l.dumps.stepping l.dumps.names.now track_of) start
      (shelf_at g.H.Source g.H.Shelf l.shelf) before l.room l.dump;
  kept : l.room ≡ record l.initial.room { held = l.room.held; used = l.room.used; captures = l.room.captures; passed = l.room.passed; others = l.room.others };
  captures : l.room.captures ≡ l.dump * count_of_clocks l.clocks;
  passed : length l.room.passed ≤ l.dump;
}

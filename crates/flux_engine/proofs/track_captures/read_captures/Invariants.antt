use Rattle.std.proofs.Common.{◌≡◌, ◌≤◌, ◌*◌, false, length, List}
use Rattle.flux_engine.specs.Captured.{count_of_clocks}
use Rattle.flux_engine.specs.LoopProgress.{AreWhole, HasGathered}
use Rattle.flux_engine.specs.Plans.{Seen}
use Rattle.flux_engine.proofs.track_captures.read_captures.Given as goal

abbrev pub invariant-loop-capture : goal.invariant-loop-capture
invariant-loop-capture g l = record {
  read : (start : g.row.S.Denot) (before : List Seen) → length before ≡ l.number * l.plan.captures → AreWhole before
      → g.T.TrackStreams.came l.streams l.plan l.initial.room.format start l.initial.source l.initial.room.held l.initial.room.used before
      → HasGathered l.plan l.initial.room.format l.number (g.T.TrackStreams.came l.streams l.plan l.initial.room.format start l.source) before l.room l.capture;
  format : l.room.format ≡ l.initial.room.format;
  started : l.room.started ≡ l.number;
  captures : l.room.captures ≡ l.capture * count_of_clocks l.plan.clocks;
  passed : length l.room.passed ≤ l.capture;
  unread : l.room.unread ≡ l.initial.room.unread;
  lost : l.room.lost ≡ l.initial.room.lost;
  told_others : l.room.told_others ≡ l.initial.room.told_others;
  whole_others : l.room.whole_others ≡ l.initial.room.whole_others;
  sound : l.room.failed ≡ false;
}

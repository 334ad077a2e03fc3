use Rattle.std.proofs.Common.{◌≤◌, ◌*◌}
use Rattle.flux_base.specs.Blames.{CountsBy, no_one}
use Rattle.flux_base.specs.World.{sinks_counts}
use Rattle.flux_engine.specs.Counts.{AreCountsBelow}
use Rattle.flux_engine.specs.LoopProgress.{HasWritten}
use Rattle.flux_engine.specs.SecondSinks.{HasWrittenSecond}
use Rattle.flux_engine.specs.Writing.{IsSum}
use Rattle.flux_engine.proofs.planned.decode_tracks.Given as goal

abbrev pub invariant-loop-number : goal.invariant-loop-number
invariant-loop-number g l = record {
  written : HasWritten l.plan (g.O.TrackWriter.part_of l.writer) l.initial.room.format
      (g.T.TrackStreams.came l.streams l.plan l.initial.room.format l.initial.source l.source)
      (g.W.Sink.written l.initial.image) (g.W.Sink.written l.image) (g.N.Sink.written l.initial.notes) (g.N.Sink.written l.notes)
      l.room l.number l.totals;
  second : HasWrittenSecond l.plan (g.O.TrackWriter.second_part_of l.writer) l.initial.room.format
      (g.T.TrackStreams.came l.streams l.plan l.initial.room.format l.initial.source l.source)
      (g.D.SecondSinks.now l.initial.second) (g.D.SecondSinks.now l.second) l.room l.number l.totals;
  sum : IsSum l.totals;
  few : l.totals.sectors ≤ 100 * l.number;
  counts : AreCountsBelow l.room l.number;
  blames : CountsBy no_one (sinks_counts g.W.Sink g.N.Sink l.initial.image l.initial.notes)
      (sinks_counts g.W.Sink g.N.Sink l.image l.notes);
}

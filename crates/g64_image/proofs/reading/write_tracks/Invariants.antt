use Rattle.std.proofs.Common.{◌≤◌, ◌*◌}
use Rattle.flux_base.specs.Blames.{CountsBy, no_one}
use Rattle.flux_base.specs.World.{sinks_counts}
use Rattle.flux_engine.specs.Writing.{IsSum}
use Rattle.g64_image.specs.Progress.{HasRead}
use Rattle.g64_image.specs.Room.{IsRoomy}
use Rattle.g64_image.proofs.reading.write_tracks.Given as goal

abbrev pub invariant-loop-number : goal.invariant-loop-number
invariant-loop-number g l = record {
  read : HasRead l.format l.file (g.W.Sink.written l.initial.image) (g.W.Sink.written l.image) (g.N.Sink.written l.initial.notes) (g.N.Sink.written l.notes)
      l.number l.totals;
  roomy : IsRoomy l.format l.tools.cells l.tools.book;
  sum : IsSum l.totals;
  few : l.totals.sectors ≤ 100 * l.number;
  blames : CountsBy no_one (sinks_counts g.W.Sink g.N.Sink l.initial.image l.initial.notes)
      (sinks_counts g.W.Sink g.N.Sink l.image l.notes);
}

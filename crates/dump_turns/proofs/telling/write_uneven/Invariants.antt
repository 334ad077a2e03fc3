use Rattle.std.proofs.Common.{false}
use Rattle.std.specs.Prelude.{flat_map}
use Rattle.std.specs.List.{range_with_len}
use Rattle.std.specs.Io.KnownBytes.{Appends}
use Rattle.flux_base.specs.Counts.{Counts}
use Rattle.flux_base.specs.World.{sink_counts}
use Rattle.dump_turns.specs.Lines.{uneven_at}
use Rattle.dump_turns.proofs.telling.write_uneven.Given as goal

abbrev pub invariant-loop-number : goal.invariant-loop-number
invariant-loop-number g l = record {
  grew : Appends (g.W.Sink.written l.initial.lines) (g.W.Sink.written l.lines) (flat_map (uneven_at l.reach l.founds l.median) (range_with_len 0 l.number));
  counts : Counts false (sink_counts g.W.Sink l.initial.lines) (sink_counts g.W.Sink l.lines);
}

use Rattle.std.proofs.Common.{false, take}
use Rattle.std.specs.List.{flat_map}
use Rattle.std.specs.Io.KnownBytes.{Appends}
use Rattle.flux_base.specs.Counts.{Counts}
use Rattle.flux_base.specs.World.{sink_counts}
use Rattle.scp_notes.specs.Lines.{early_text}
use Rattle.scp_notes.proofs.lines.write_ends.Given as goal

abbrev pub invariant-loop-end : goal.invariant-loop-end
invariant-loop-end g l = record {
  grew : Appends (g.N.Sink.written l.initial.sink) (g.N.Sink.written l.sink) (flat_map (early_text l.dump) (take l.end-index l.ends));
  counts : Counts false (sink_counts g.N.Sink l.initial.sink) (sink_counts g.N.Sink l.sink);
}

use Rattle.std.proofs.Common.{false, take}
use Rattle.std.specs.Prelude.{flat_map}
use Rattle.std.specs.Io.KnownBytes.{Appends}
use Rattle.flux_base.specs.Counts.{Counts}
use Rattle.flux_base.specs.World.{sink_counts}
use Rattle.dump_identity.specs.Lines.{foreign_text}
use Rattle.dump_identity.proofs.identifying.tell_foreign.Given as goal

abbrev pub invariant-loop-number : goal.invariant-loop-number
invariant-loop-number g l = record {
  grew : Appends (g.W.Sink.written l.initial.lines) (g.W.Sink.written l.lines) (flat_map foreign_text (take l.number l.foreign));
  counts : Counts false (sink_counts g.W.Sink l.initial.lines) (sink_counts g.W.Sink l.lines);
}

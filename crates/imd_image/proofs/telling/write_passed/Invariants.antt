use Rattle.std.proofs.Common.{false, take}
use Rattle.std.specs.List.{flat_map}
use Rattle.std.specs.Io.KnownBytes.{Appends}
use Rattle.flux_base.specs.Counts.{Counts}
use Rattle.flux_base.specs.World.{sink_counts}
use Rattle.imd_image.specs.Lines.{file_text}
use Rattle.imd_image.proofs.telling.write_passed.Given as goal

abbrev pub invariant-loop-index : goal.invariant-loop-index
invariant-loop-index g l = record {
  grew : Appends (g.N.Sink.written l.initial.notes) (g.N.Sink.written l.notes) (flat_map (file_text l.dumps l.track) (take l.index l.passed));
  counts : Counts false (sink_counts g.N.Sink l.initial.notes) (sink_counts g.N.Sink l.notes);
}

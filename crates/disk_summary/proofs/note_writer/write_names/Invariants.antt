use Rattle.std.proofs.Common.{false, take}
use Rattle.std.specs.List.{flat_map}
use Rattle.std.specs.Io.KnownBytes.{Appends}
use Rattle.flux_base.specs.Counts.{Counts}
use Rattle.flux_base.specs.World.{sink_counts}
use Rattle.disk_summary.proofs.Tracks.{told_text}
use Rattle.disk_summary.proofs.note_writer.write_names.Given as goal

abbrev pub invariant-loop-number : goal.invariant-loop-number
invariant-loop-number g l = record {
  grew : Appends (g.N.Sink.written l.initial.notes) (g.N.Sink.written l.notes) (flat_map (told_text l.track) (take l.number l.told));
  counts : Counts false (sink_counts g.N.Sink l.initial.notes) (sink_counts g.N.Sink l.notes);
}

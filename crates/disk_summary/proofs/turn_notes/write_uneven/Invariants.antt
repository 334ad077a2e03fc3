use Rattle.std.proofs.Common.{false}
use Rattle.std.specs.List.{flat_map, range_with_len}
use Rattle.std.specs.Io.KnownBytes.{Appends}
use Rattle.flux_base.specs.Counts.{Counts}
use Rattle.flux_base.specs.World.{sink_counts}
use Rattle.disk_summary.proofs.TurnNotes.{file_text}
use Rattle.disk_summary.proofs.turn_notes.write_uneven.Given as goal

abbrev pub invariant-loop-number : goal.invariant-loop-number
invariant-loop-number g l = record {
  grew : Appends (g.N.Sink.written l.initial.notes) (g.N.Sink.written l.notes) (flat_map (file_text l.dump l.turns l.room) (range_with_len 0 l.number));
  counts : Counts false (sink_counts g.N.Sink l.initial.notes) (sink_counts g.N.Sink l.notes);
}

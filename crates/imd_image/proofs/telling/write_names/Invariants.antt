use Rattle.std.proofs.Common.{false}
use Rattle.std.specs.Prelude.{flat_map}
use Rattle.std.specs.List.{range_with_len}
use Rattle.std.specs.Io.KnownBytes.{Appends}
use Rattle.flux_base.specs.Counts.{Counts}
use Rattle.flux_base.specs.World.{sink_counts}
use Rattle.imd_image.specs.Lines.{left_part}
use Rattle.imd_image.proofs.telling.write_names.Given as goal

abbrev pub invariant-loop-number : goal.invariant-loop-number
invariant-loop-number g l = record {
  grew : Appends (g.N.Sink.written l.initial.notes) (g.N.Sink.written l.notes) (flat_map (left_part l.track l.mode l.book l.rows) (range_with_len 0 l.number));
  counts : Counts false (sink_counts g.N.Sink l.initial.notes) (sink_counts g.N.Sink l.notes);
}

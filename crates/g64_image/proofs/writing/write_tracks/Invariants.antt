use Rattle.std.proofs.Common.{false, ◌≤◌}
use Rattle.std.specs.List.{flat_map, range_with_len}
use Rattle.std.specs.Io.KnownBytes.{Appends}
use Rattle.flux_base.specs.Counts.{Counts}
use Rattle.flux_base.specs.World.{sink_counts}
use Rattle.cell_bits.specs.State.{room}
use Rattle.g64_image.specs.Layout.{image_record}
use Rattle.g64_image.proofs.writing.write_tracks.Given as goal

abbrev pub invariant-loop-number : goal.invariant-loop-number
invariant-loop-number g l = record {
  grew : Appends (g.W.Sink.written l.initial.sink) (g.W.Sink.written l.sink) (flat_map (image_record l.format l.image) (range_with_len 0 l.number));
  room : room l.initial.ring ≤ room l.ring;
  counts : Counts false (sink_counts g.W.Sink l.initial.sink) (sink_counts g.W.Sink l.sink);
}

use Rattle.std.proofs.Common.{false}
use Rattle.std.specs.List.{flat_map, range_with_len}
use Rattle.std.specs.Io.KnownBytes.{Appends}
use Rattle.flux_base.specs.Counts.{Counts}
use Rattle.flux_base.specs.World.{sink_counts}
use Rattle.disk_map.specs.Texts.{grid_text}
use Rattle.disk_map.proofs.disk.write_each_grid.Given as goal

abbrev pub invariant-loop-head : goal.invariant-loop-head
invariant-loop-head g l = record {
  grew : Appends (g.P.Sink.written l.initial.picture) (g.P.Sink.written l.picture) (flat_map (grid_text l.layout) (range_with_len 0 l.head));
  counts : Counts false (sink_counts g.P.Sink l.initial.picture) (sink_counts g.P.Sink l.picture);
}

use Rattle.std.proofs.Common.{false}
use Rattle.std.specs.List.{flat_map, range_with_len}
use Rattle.std.specs.Io.KnownBytes.{Appends}
use Rattle.flux_base.specs.Counts.{Counts}
use Rattle.flux_base.specs.World.{sink_counts}
use Rattle.sector_copies.specs.Texts.{row_text}
use Rattle.sector_copies.proofs.printing.write_rows.Given as goal

abbrev pub invariant-loop-number : goal.invariant-loop-number
invariant-loop-number g l = record {
  grew : Appends (g.W.Sink.written l.initial.sink) (g.W.Sink.written l.sink) (flat_map (row_text l.first l.bytes) (range_with_len 0 l.number));
  counts : Counts false (sink_counts g.W.Sink l.initial.sink) (sink_counts g.W.Sink l.sink);
}

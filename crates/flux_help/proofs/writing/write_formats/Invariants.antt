use Rattle.std.proofs.Common.{false, take, flat_map}
use Rattle.flux_base.specs.Counts.{Counts}
use Rattle.flux_base.specs.World.{sink_counts}
use Rattle.std.specs.Io.KnownBytes.{Appends}
use Rattle.sector_images.specs.Formats.{formats}
use Rattle.flux_help.specs.Pages.{format_text}
use Rattle.flux_help.proofs.writing.write_formats.Given as goal

abbrev pub invariant-loop-format : goal.invariant-loop-format
invariant-loop-format g l = record {
  grew : Appends (g.W.Sink.written l.initial.sink) (g.W.Sink.written l.sink) (flat_map format_text (take l.format-index formats));
  counts : Counts false (sink_counts g.W.Sink l.initial.sink) (sink_counts g.W.Sink l.sink);
}

use Rattle.std.proofs.Common.{false, take}
use Rattle.std.specs.List.{flat_map}
use Rattle.std.specs.Io.KnownBytes.{Appends}
use Rattle.flux_base.specs.Counts.{Counts}
use Rattle.flux_base.specs.World.{sink_counts}
use Rattle.name_book.specs.Book.{told_at}
use Rattle.imd_image.specs.Lines.{lost_part}
use Rattle.imd_image.proofs.telling.write_lost.Given as goal

abbrev pub invariant-loop-index : goal.invariant-loop-index
invariant-loop-index g l = record {
  grew : Appends (g.N.Sink.written l.initial.notes) (g.N.Sink.written l.notes) (flat_map (λ row. lost_part l.track (told_at l.book row)) (take l.index l.rows));
  counts : Counts false (sink_counts g.N.Sink l.initial.notes) (sink_counts g.N.Sink l.notes);
}

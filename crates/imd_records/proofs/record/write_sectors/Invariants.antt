use Rattle.std.proofs.Common.{false, take}
use Rattle.std.specs.List.{flat_map}
use Rattle.std.specs.Io.KnownBytes.{Appends}
use Rattle.flux_base.specs.Counts.{Counts}
use Rattle.flux_base.specs.World.{sink_counts}
use Rattle.name_book.specs.Book.{told_at}
use Rattle.imd_records.specs.Records.{sector_bytes}
use Rattle.imd_records.proofs.record.write_sectors.Given as goal

abbrev pub invariant-loop-index : goal.invariant-loop-index
invariant-loop-index g l = record {
  grew : Appends (g.W.Sink.written l.initial.file) (g.W.Sink.written l.file) (flat_map (λ row. sector_bytes (told_at l.book row).agreed) (take l.index l.rows));
  counts : Counts false (sink_counts g.W.Sink l.initial.file) (sink_counts g.W.Sink l.file);
}

use Rattle.std.proofs.Common.{◌≡◌, ◌≤◌, false, List, Some, length, take}
use Rattle.std.specs.List.{filter_map, range_with_len}
use Rattle.flux_base.specs.Counts.{Counts}
use Rattle.flux_base.specs.World.{source_counts}
use Rattle.track_shelf.specs.Files.{File, file_at}
use Rattle.track_shelf.specs.World.{told_at}
use Rattle.scp_files.specs.Files.{FRONT_SIZE}
use Rattle.scp_notes.specs.Files.{early_end}
use Rattle.scp_notes.proofs.file.find_early_ends.Given as goal

abbrev pub invariant-loop-number : goal.invariant-loop-number
invariant-loop-number g l = record {
  ends : (files : List File) (file : File) → g.H.Shelf.files l.initial.shelf ≡ Some files → file_at files l.path ≡ Some file
      → l.header ≡ take FRONT_SIZE file.bytes → l.ends.items ≡ filter_map (early_end file.bytes) (range_with_len 0 l.number);
  few : length l.ends.items ≤ l.number;
  told : told_at g.H.Source g.H.Shelf l.shelf ≡ told_at g.H.Source g.H.Shelf l.initial.shelf;
  counts : Counts false (source_counts g.H.Source l.initial.shelf) (source_counts g.H.Source l.shelf);
}

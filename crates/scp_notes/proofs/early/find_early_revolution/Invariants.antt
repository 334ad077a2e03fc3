use Rattle.std.proofs.Common.{◌≡◌, ◌≤◌, false, List, Some, drop, take}
use Rattle.flux_base.specs.Counts.{Counts}
use Rattle.flux_base.specs.World.{source_counts}
use Rattle.track_shelf.specs.Files.{File, file_at}
use Rattle.track_shelf.specs.World.{told_at}
use Rattle.scp_files.specs.Tracks.{MOST_ENTRIES, head_size}
use Rattle.scp_notes.specs.inside.Walk.{HasPassed}
use Rattle.scp_notes.proofs.early.find_early_revolution.Given as goal

abbrev pub invariant-loop-number : goal.invariant-loop-number
invariant-loop-number g l = record {
  passed : (files : List File) (file : File) → g.H.Shelf.files l.initial.shelf ≡ Some files → file_at files l.path ≡ Some file
      → l.head ≡ take (head_size l.place.revolutions) (drop l.place.offset file.bytes)
      → HasPassed l.place.revolutions (drop l.place.offset file.bytes) l.number l.entries;
  few : l.entries ≤ MOST_ENTRIES;
  told : told_at g.H.Source g.H.Shelf l.shelf ≡ told_at g.H.Source g.H.Shelf l.initial.shelf;
  counts : Counts false (source_counts g.H.Source l.initial.shelf) (source_counts g.H.Source l.shelf);
}

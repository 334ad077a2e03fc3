use Rattle.std.proofs.Common.{◌≡◌, false, List, Some, drop, take}
use Rattle.flux_base.specs.Counts.{Counts}
use Rattle.flux_base.specs.World.{source_counts}
use Rattle.track_shelf.specs.Files.{File, file_at}
use Rattle.track_shelf.specs.World.{told_at}
use Rattle.scp_files.specs.Tracks.{head_size}
use Rattle.scp_tracks.specs.inside.Walk.{HasWalked}
use Rattle.scp_tracks.proofs.track.read_revolutions.Given as goal

abbrev pub invariant-loop-number : goal.invariant-loop-number
invariant-loop-number g l = record {
  walked : (files : List File) (file : File) → g.H.Shelf.files l.initial.shelf ≡ Some files → file_at files l.path ≡ Some file
      → l.head ≡ take (head_size l.place.revolutions) (drop l.place.offset file.bytes)
      → HasWalked l.place.revolutions (drop l.place.offset file.bytes) l.number l.capture;
  resolution : l.capture.resolution ≡ l.initial.capture.resolution;
  told : told_at g.H.Source g.H.Shelf l.shelf ≡ told_at g.H.Source g.H.Shelf l.initial.shelf;
  counts : Counts false (source_counts g.H.Source l.initial.shelf) (source_counts g.H.Source l.shelf);
}

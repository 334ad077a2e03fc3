-- What came of reading a track into the flux of a stream room.
use Rattle.std.specs.Prelude.{◌≡◌, ℕ, List, drop, is_err, IfOk, Option, Some, Result}
use Rattle.flux_base.specs.Counts.{Counts, FaultCounts}
use Rattle.flux_base.specs.declared.outside.Failed.{Failed}
use Rattle.index_turns.specs.Track.{TrackState}
use Rattle.track_shelf.specs.Files.{File, file_at}
use Rattle.track_shelf.specs.Told.{ShelfTold, with_failed}
use Rattle.scp_files.specs.Disks.{track_stream}
use Rattle.scp_tracks.specs.Reads.{IsBoundedRead, IsScpRead}
use Rattle.scp_tracks.specs.Tracks.{lost}
use Rattle.scp_tracks.specs.declared.stream.ScpRead.{ScpRead}
use Rattle.scp_tracks.specs.declared.track.TrackPlace.{TrackPlace}

-- the track at this place of the file was read, between two moments of the shelf
pub record MakesTrack (path : List ℕ) (resolution : ℕ) (place : TrackPlace)
    (shelf : Option (List File)) (old new : ShelfTold) (counts counts' : FaultCounts)
    (answer : Result ScpRead Failed) (flux : TrackState) : Type 0 where
  pub is : (files : List File) (file : File) → shelf ≡ Some files → file_at files path ≡ Some file
      → IfOk answer
      (λ read. IsScpRead
      (Some (track_stream resolution place.revolutions place.number (drop place.offset file.bytes)))
      read flux)
  pub bounded : IfOk answer (λ read. IsBoundedRead read flux)
  pub told : new ≡ with_failed (lost path answer) old
  pub counts_are : Counts (is_err answer) counts counts'

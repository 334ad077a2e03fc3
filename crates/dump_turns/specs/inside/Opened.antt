-- What comes of the file of a track before its stream is read.
use Rattle.std.specs.Prelude.{◌≡◌, ◌≤◌, ℕ, Bool, true, false, cond, min, take, length, List, []}
use Rattle.std.specs.Prelude.{◌∷◌}
use Rattle.std.specs.Prelude.{Option, Some, None}
use Rattle.flux_base.specs.Counts.{FaultCounts}
use Rattle.flux_base.specs.declared.track.TrackId.{TrackId}
use Rattle.flux_engine.specs.Plans.{Seen}
use Rattle.track_shelf.specs.Files.{File, dump_track, none_yet}
use Rattle.track_shelf.specs.declared.stepping.Stepping.TheVariants.{Single}
use Rattle.dump_reading.specs.DumpStreams.{GaveOf}
use Rattle.dump_reading.specs.Files.{ShelfNow}
use Rattle.dump_turns.specs.Files.{HasSize, IsToldOf}
use Rattle.dump_turns.specs.declared.found.Found.{Found}
use Rattle.dump_turns.specs.declared.files.Opened.{Opened}
use Rattle.dump_turns.specs.declared.files.Opened.TheVariants.{Missing, Lost, Whole}

-- a file of a shelf was not called yet
pub record IsFresh (file shelf : FaultCounts) : Type 0 where
  pub sound : file.faults ≡ 0
  pub none_failed : file.failed ≡ none_yet shelf.failed

abbrev pub is_lost : Opened → Bool
is_lost Lost = true
is_lost _ = false

-- these are the first bytes of a file, as many as fit
pub record Holds (buffer : List ℕ) (count : ℕ) (bytes : List ℕ) : Type 0 where
  pub count_is : count ≡ min (length bytes) (length buffer)
  pub bytes_are : take count buffer ≡ take count bytes

-- the file is as it is told, or it failed
abbrev pub IsOpenedOf : Option File → (buffer : List ℕ) → Opened → Type 0
IsOpenedOf told buffer Lost = Unit {0}
IsOpenedOf None buffer Missing = Unit {0}
IsOpenedOf (Some file) buffer (Whole count) = Holds buffer count file.bytes
IsOpenedOf _ buffer _ = ⊥

-- at most so many bytes were read
abbrev pub IsWithin : (most : ℕ) → Opened → Type 0
IsWithin most (Whole count) = count ≤ most
IsWithin most _ = Unit {0}

-- the path of the file, where it failed
abbrev pub lost_path : (path : List ℕ) → Opened → List (List ℕ)
lost_path path opened = cond (is_lost opened) (path ∷ []) []

-- A track was read between two moments of the shelf: what came of it, and that is
-- what is found.
pub record FindsOne (dump : List ℕ) (track : TrackId) (start now : ShelfNow)
    (found : Found) : Type 0 where
  pub here : Seen
  pub gave : GaveOf Single (dump ∷ []) track 0 start now here
  pub told : IsToldOf here found
  pub sized : (files : List File) → start.told.files ≡ Some files
      → HasSize (dump_track files dump track) found

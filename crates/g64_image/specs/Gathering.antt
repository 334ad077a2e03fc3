-- The readings of a track that is kept as a ring, gathered in a book.
use Rattle.std.specs.Prelude.{◌≤◌, ℕ, ◌++◌, Bool, List}
use Rattle.flux_base.specs.declared.track.TrackId.{TrackId}
use Rattle.flux_engine.specs.Recordings.{sectors_of}
use Rattle.flux_engine.specs.Tracks.{Found, part_of}
use Rattle.flux_engine.specs.Writing.{Knows}
use Rattle.sector_images.specs.declared.format.Format.{Format}
use Rattle.turn_merge.specs.Book.{Knowledge, SameShape, StandsFor}
use Rattle.turn_merge.specs.Readings.{NotedReading}
use Rattle.g64_image.specs.FileDisks.{AreReadingsTo, IsRingPart, ring_readings}

-- all that can be read at places of the cells below the end was noted in the book
pub record GathersTo (header : List Bool → ℕ → Type 0) (sector : List Bool → ℕ → List ℕ → Type 0)
    (cells : List Bool) (end : ℕ)
    (old new : Knowledge) : Type 0 where
  pub found : List Found
  pub all : AreReadingsTo header sector cells end 0 found
  pub noted : StandsFor new (ring_readings found)
  pub shape : SameShape old new

-- The walk has come to a place: what was found before it is noted, and with what will be
-- found from there on it is all.
pub record IsWalk (header : List Bool → ℕ → Type 0) (sector : List Bool → ℕ → List ℕ → Type 0)
    (cells : List Bool) (end from : ℕ)
    (old new : Knowledge) : Type 0 where
  pub found : List Found
  pub before : (rest : List Found) → AreReadingsTo header sector cells end from rest
      → AreReadingsTo header sector cells end 0 (found ++ rest)
  pub noted : StandsFor new (ring_readings found)
  pub shape : SameShape old new
  pub few : new.notes ≤ from
  pub within : from ≤ end

-- the book stands for all readings of a ring of these cells
pub record HasRingReadings (format : Format) (track : TrackId) (cells : List Bool)
    (book : Knowledge) : Type 0 where
  pub knows : Knows (sectors_of format track) book
  pub readings : List NotedReading
  pub stands : StandsFor book readings
  pub is : IsRingPart format track cells (part_of format track readings)

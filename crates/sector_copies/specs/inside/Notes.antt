-- Steps of the crate's own functions, over what `Notes` defines.
use Rattle.std.specs.Prelude.{◌≡◌, ◌≤◌, ℕ, ◌+◌, List, [], ◌++◌, ◌∷◌, flat_map, length}
use Rattle.flux_base.specs.Bounds.{MOST_SECTOR_BYTES}
use Rattle.turn_merge.specs.Book.{Knowledge}
use Rattle.turn_merge.specs.Readings.{NotedReading, good_reading}
use Rattle.turn_merge.specs.declared.verdict.Place.{Place}
use Rattle.sector_copies.specs.Copies.{Copy}
use Rattle.sector_copies.specs.inside.Copies.{AreFewer}
use Rattle.sector_copies.specs.Notes.{SectorKnown, of_sector, SectorStandsFor}

-- a call appends these to whatever list of readings of the sector is stood for
abbrev pub AppendsNotes : SectorKnown → SectorKnown → List NotedReading → Type 0
AppendsNotes old new more = (readings : List NotedReading) → SectorStandsFor old readings
    → SectorStandsFor new (readings ++ more)

-- of whatever list has all these readings of a track, a call notes those of the sector
abbrev pub NotesOf : (AreAll : List NotedReading → Type 0) → SectorKnown → SectorKnown → Type 0
NotesOf AreAll old new = (readings : List NotedReading) → AreAll readings
    → AppendsNotes old new (of_sector old.sector readings)

-- the good readings of a header of a sector: one for each of its data
abbrev pub data_readings : (sector : ℕ) → Place → List (ℕ × List ℕ) → List NotedReading
data_readings sector place found = flat_map (λ d. good_reading sector place d.1 ∷ []) found

-- a call keeps the sector and the number of its bytes
pub record IsSameSector (old new : SectorKnown) : Type 0 where
  pub sector : new.sector ≡ old.sector
  pub size : new.book.size ≡ old.book.size

-- the parts belong together
pub record AreOfSector (sector : ℕ) (book : Knowledge) (copies : List Copy) : Type 0 where
  pub first : book.first_sector ≡ sector
  pub one : length book.found ≡ 1
  pub small : book.size ≤ MOST_SECTOR_BYTES
  pub fewer : AreFewer (book.notes + 1) copies

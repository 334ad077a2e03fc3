-- What is noted of one sector of a track.
use Rattle.std.specs.Prelude.{◌≡◌, ℕ, List, filter, nat_eq}
use Rattle.turn_merge.specs.Book.{Knowledge, StandsFor}
use Rattle.turn_merge.specs.Readings.{NotedReading, good_ones}
use Rattle.sector_copies.specs.Copies.{Copy, copies_over}

-- the sector's number, what a book of this sector alone knows of it, and
-- the contents that are kept of it
pub record SectorKnown : Type 0 where
  pub sector : ℕ
  pub book : Knowledge
  pub copies : List Copy

-- the readings of one sector among those of a track, in their order
abbrev pub of_sector : ℕ → List NotedReading → List NotedReading
of_sector sector readings = filter (λ r. nat_eq r.sector sector) readings

-- what is known stands for these readings, which are all of the sector
pub record SectorStandsFor (known : SectorKnown) (readings : List NotedReading) : Type 0 where
  pub book : StandsFor known.book readings
  pub copies : known.copies ≡ copies_over (good_ones readings known.sector)

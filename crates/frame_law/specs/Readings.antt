-- What is read at a place of a list of cells, and the readings of a whole track.
use Rattle.std.specs.Prelude.{◌≡◌, ◌≢◌, ℕ, ◌+◌, ◌<◌, ◌≤◌, Bool, List, [], ◌∷◌, drop, Option, Some}
use Rattle.std.specs.Prelude.{None}
use Rattle.frame_law.specs.declared.reading.Reading.{Reading}
use Rattle.frame_law.specs.declared.reading.Reading.TheVariants.{Nothing, Bad, Good}

-- What stands at one place, by the relations "this sector's header stands there" and "this
-- sector stands there with these bytes": nothing where no header stands, a bad sector where a
-- header stands and no sector does, and a good one where a sector stands. The buffer has a good
-- sector's bytes, and is else empty.
abbrev pub Reads : (ℕ → Type 0) → (ℕ → List ℕ → Type 0) → Reading → List ℕ → Type 0
Reads header sector Nothing buffer = (buffer ≡ []) × ((s : ℕ) → ¬ header s)
Reads header sector (Bad s) buffer =
    (buffer ≡ []) × header s × ((t : ℕ) (bytes : List ℕ) → ¬ sector t bytes)
Reads header sector (Good s) buffer = sector s buffer

-- no header stands at a place that is at least `from` and below `to`
abbrev pub NoHeader : (List Bool → ℕ → Type 0) → List Bool → ℕ → ℕ → Type 0
NoHeader header cells from to =
    (place s : ℕ) → from ≤ place → place < to → ¬ header (drop place cells) s

module _ (header : List Bool → ℕ → Type 0) (sector : List Bool → ℕ → List ℕ → Type 0)
    (cells : List Bool) where
  -- The first reading at a place that is at least `from`, with the bytes that go with it: the
  -- least such place at which a header stands, and what is read there. There is none exactly where
  -- no header stands from there on.
  abbrev pub FirstReading : ℕ → Option (ℕ × Reading) → List ℕ → Type 0
  FirstReading from None buffer = (buffer ≡ []) × ((to : ℕ) → NoHeader header cells from to)
  FirstReading from (Some found) buffer =
      (from ≤ found.0) × NoHeader header cells from found.0 × (found.1 ≢ Nothing)
      × Reads (header (drop found.0 cells)) (sector (drop found.0 cells)) found.1 buffer

  -- All readings at places that are at least `from`, by rising place, each with its bytes.
  abbrev pub AreReadings : ℕ → List (ℕ × Reading × List ℕ) → Type 0
  AreReadings from [] = FirstReading from None []
  AreReadings from (found ∷ rest) =
      FirstReading from (Some (found.0, found.1)) found.2 × AreReadings (found.0 + 1) rest

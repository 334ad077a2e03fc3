-- The distinct contents of a sector's good readings: what is told of each.
use Rattle.std.specs.Prelude.{ℕ, Bool, not, List, [], ◌∷◌, length, take, map, filter}
use Rattle.std.specs.Str.{bytes_eq}
use Rattle.turn_merge.specs.Readings.{NotedReading, bytes_of}
use Rattle.turn_merge.specs.declared.verdict.Place.{Place}

-- one content: its bytes, how many readings hold it, and where the first of them stands
pub record Copy : Type 0 where
  pub bytes : List ℕ
  pub readings : ℕ
  pub first : Place

-- whether a reading holds these bytes
abbrev pub holds : List ℕ → NotedReading → Bool
holds bytes reading = bytes_eq bytes (bytes_of reading)

-- the first reading of each content, in their order
abbrev pub first_holders : List NotedReading → List NotedReading
first_holders [] = []
first_holders (reading ∷ readings) =
    reading ∷ filter (λ r. not (holds (bytes_of reading) r)) (first_holders readings)

-- what is told of the content of one of them, the first that holds it
abbrev pub copy_of : List NotedReading → NotedReading → Copy
copy_of readings one =
    record {
      bytes = bytes_of one;
      readings = length (filter (holds (bytes_of one)) readings);
      first = one.place;
    }

-- the most contents that are kept of a sector
abbrev pub MOST_COPIES : ℕ
MOST_COPIES = 16

-- the contents of these readings that are kept: the first ones, in the
-- order in which they were first met
unfoldable pub copies_over : List NotedReading → List Copy
copies_over readings = map (copy_of readings) (take MOST_COPIES (first_holders readings))

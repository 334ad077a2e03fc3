-- What the readings of a list of cells are: all that stands there from
-- a place on, and nothing else.
use Rattle.std.specs.Prelude.{◌≡◌, ℕ, ◌+◌, ◌%◌, ◌<◌, ◌≤◌, ◌↔◌, Bool, false, List, [], length, drop}
use Rattle.std.specs.Prelude.{map, replicate, All, Contains}
use Rattle.std.specs.List.Sorted.{IsStrictlyIncreasing}
use Rattle.frame_law.specs.declared.reading.Reading.{Reading}
use Rattle.frame_law.specs.declared.reading.Reading.TheVariants.{Nothing, Bad, Good}
use Rattle.frame_law.specs.Readings.{AreReadings}
use Rattle.track_rings.specs.OwnSectors.{IsAlone, IsOwnPlace, between_zeros}
use Rattle.track_rings.specs.Rings.{stretch}

-- a place, what is read there, and the bytes that go with it
abbrev pub Found : Type 0
Found = ℕ × Reading × List ℕ

-- the places of all that is found, in its order
abbrev pub places : List Found → List ℕ
places found = map (λ f. f.0) found

module _ (header : List Bool → ℕ → Type 0) (sector : List Bool → ℕ → List ℕ → Type 0)
    (cells : List Bool) where
  -- the header of some sector stands at the place
  abbrev pub HasHeader : ℕ → Type 0
  HasHeader place = (s : ℕ) × header (drop place cells) s

  -- this sector stands whole at the place, with these bytes
  abbrev pub HasSector : ℕ → ℕ → List ℕ → Type 0
  HasSector place s bytes = sector (drop place cells) s bytes

  -- this sector's header stands at the place, and no whole sector does
  abbrev pub HasHeaderOnly : ℕ → ℕ → Type 0
  HasHeaderOnly place s =
      header (drop place cells) s × ((t : ℕ) (bytes : List ℕ) → ¬ HasSector place t bytes)

  -- Their places rise strictly, are at least `from`, and lie in the cells. From there on a place is
  -- among them exactly where a header stands; there a good sector is found with its bytes exactly
  -- where the sector stands whole with these bytes, and a bad one, with no bytes, exactly where its
  -- header alone stands. Nothing is never among them.
  pub record AreAllFrom (from : ℕ) (found : List Found) : Type 0 where
    pub rise : IsStrictlyIncreasing (places found)
    pub inside : All (λ place. (from ≤ place) × (place < length cells)) (places found)
    pub headers : (place : ℕ) → from ≤ place → Contains (places found) place ↔ HasHeader place
    pub good : (place s : ℕ) (bytes : List ℕ) → from ≤ place
        → Contains found (place, Good s, bytes) ↔ HasSector place s bytes
    pub bad : (place s : ℕ) (bytes : List ℕ) → from ≤ place
        → Contains found (place, Bad s, bytes) ↔ ((bytes ≡ []) × HasHeaderOnly place s)
    pub no_other : (place : ℕ) (bytes : List ℕ) → ¬ Contains found (place, Nothing, bytes)

-- What the cells tell: no two headers and no two contents of sectors stand in the same ones, and a
-- sector stands with its header, and with as many bytes as a sector has.
pub record SectorsAreTold (header : List Bool → ℕ → Type 0)
    (sector : List Bool → ℕ → List ℕ → Type 0) (size : ℕ) : Type 0 where
  pub one_header : (cells : List Bool) (s t : ℕ) → header cells s → header cells t → s ≡ t
  pub one_content : (cells : List Bool) (s t : ℕ) (xs ys : List ℕ) → sector cells s xs
      → sector cells t ys → xs ≡ ys
  pub has_header : (cells : List Bool) (s : ℕ) (xs : List ℕ) → sector cells s xs → header cells s
  pub content_size : (cells : List Bool) (s : ℕ) (xs : List ℕ) → sector cells s xs
      → length xs ≡ size

-- in any cells and from any place on, a list is what repeated searches find exactly
-- where it is all that stands there
abbrev pub ReadingsAreAll : (List Bool → ℕ → Type 0) → (List Bool → ℕ → List ℕ → Type 0) → Type 0
ReadingsAreAll header sector = (cells : List Bool) (from : ℕ) (found : List Found)
    → AreReadings header sector cells from found ↔ AreAllFrom header sector cells from found

-- in any cells and from any place on, repeated searches find one list
abbrev pub ReadingsAreOne : (List Bool → ℕ → Type 0) → (List Bool → ℕ → List ℕ → Type 0) → Type 0
ReadingsAreOne header sector = (cells : List Bool) (from : ℕ) (found other : List Found)
    → AreReadings header sector cells from found → AreReadings header sector cells from other
    → found ≡ other

-- What stands in some cells depends on its own cells alone, and nothing
-- stands in cells without a one.
pub record StandsAlone (header : List Bool → ℕ → Type 0)
    (sector : List Bool → ℕ → List ℕ → Type 0) : Type 0 where
  pub headers : (cells : List Bool) (s : ℕ) → header cells s
      → IsAlone (λ others. header others s) cells
  pub sectors : (cells : List Bool) (s : ℕ) (bytes : List ℕ) → sector cells s bytes
      → IsAlone (λ others. sector others s bytes) cells
  pub no_header : (count s : ℕ) → ¬ header (replicate count false) s
  pub no_sector : (count s : ℕ) (bytes : List ℕ) → ¬ sector (replicate count false) s bytes

module _ (header : List Bool → ℕ → Type 0) (sector : List Bool → ℕ → List ℕ → Type 0)
    (ring : List Bool) (ring_cells : ℕ) (place_of : ℕ → ℕ) (content : ℕ → List ℕ) where
  -- In any stretch of the repeated ring between zeros: a header that stands is the ring's own, and
  -- so is a sector, with its bytes.
  pub record HasOnlyOwnBetweenZeros (zeros from count behind : ℕ) : Type 0 where
    pub headers : (place s : ℕ) → header (drop place (between_zeros ring zeros from count behind)) s
        → IsOwnPlace ring_cells (place_of s) zeros from place
    pub sectors : (place s : ℕ) (bytes : List ℕ)
        → sector (drop place (between_zeros ring zeros from count behind)) s bytes
        → IsOwnPlace ring_cells (place_of s) zeros from place × (bytes ≡ content s)

  -- In any stretch of it alone: a sector that stands is the ring's own, with its bytes; and a
  -- header that stands without a sector is the ring's own, and the stretch ends within its frame.
  pub record HasOnlyOwn (frame_cells from count : ℕ) : Type 0 where
    pub sectors : (place s : ℕ) (bytes : List ℕ)
        → HasSector header sector (stretch ring from count) place s bytes
        → ((from + place) % ring_cells ≡ place_of s) × (bytes ≡ content s)
    pub headers : (place s : ℕ) → HasHeaderOnly header sector (stretch ring from count) place s
        → ((from + place) % ring_cells ≡ place_of s) × (count < place + frame_cells)

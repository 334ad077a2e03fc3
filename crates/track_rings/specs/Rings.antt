-- A track's ring, which the turning disk repeats endlessly, and where its sectors
-- lie in a part of the repetition.
use Rattle.std.specs.Prelude.{◌≡◌, ℕ, zero, suc, ◌+◌, ◌-◌, ◌*◌, ◌%◌, ◌<◌, ◌≤◌, Bool, true, false}
use Rattle.std.specs.Prelude.{List, [], ◌∷◌, length, take, drop, get_or, slice_index}

-- the cell at a place of the endlessly repeated ring
abbrev pub cell_of : List Bool → ℕ → Bool
cell_of ring place = get_or ring (place % length ring) false

-- so many cells of the endlessly repeated ring, from a place on
unfoldable pub stretch : List Bool → ℕ → ℕ → List Bool
stretch ring from zero = []
stretch ring from (suc count) = cell_of ring from ∷ stretch ring (from + 1) count

-- the last of a list of places or times, and 0 where there is none
abbrev pub last_in : List ℕ → ℕ
last_in xs = slice_index xs (length xs - 1)

-- a one stands at a place, the next one a distance after it, and none between them
pub record AreNeighbours (ring : List Bool) (place distance : ℕ) : Type 0 where
  pub first : cell_of ring place ≡ true
  pub next : cell_of ring (place + distance) ≡ true
  pub behind : 0 < distance
  pub zeros : (k : ℕ) → 0 < k → k < distance → cell_of ring (place + k) ≡ false

-- the ring has a one, and its neighbouring ones, read cyclically, are
-- `shortest` to `longest` cells apart
pub record IsSpaced (shortest longest : ℕ) (ring : List Bool) : Type 0 where
  pub has_one : (place : ℕ) × (place < length ring) × (cell_of ring place ≡ true)
  pub apart : (place distance : ℕ) → AreNeighbours ring place distance
      → (shortest ≤ distance) × (distance ≤ longest)

-- the bytes of so many sectors of `size` bytes, one after another
pub record AreSectors (sectors size : ℕ) (bytes : List ℕ) : Type 0 where
  pub whole : length bytes ≡ sectors * size
  pub fit : (k : ℕ) → get_or bytes k 0 < 256

-- the bytes of one of them, by its number, where the numbers begin with `first`
abbrev pub bytes_of : ℕ → ℕ → List ℕ → ℕ → List ℕ
bytes_of first size bytes sector = take size (drop ((sector - first) * size) bytes)

-- a number of a track's sectors
pub record IsSectorNumber (first sectors sector : ℕ) : Type 0 where
  pub least : first ≤ sector
  pub most : sector < first + sectors

-- In `count` cells from place `from` of the repeated ring on, a frame that begins at `begin` of
-- the ring lies whole at `place`.
pub record LiesAt (ring_cells begin frame_cells from count place : ℕ) : Type 0 where
  pub same : (from + place) % ring_cells ≡ begin
  pub whole : place + frame_cells ≤ count

-- each is a byte
unfoldable pub AreBytes : List ℕ → Type 0
AreBytes [] = Unit {0}
AreBytes (byte ∷ bytes) = (byte < 256) × AreBytes bytes

-- A track made of rows: what its rows are, from index to index, and their cells.
use Rattle.std.specs.Prelude.{◌≡◌, ℕ, ◌+◌, ◌-◌, ◌*◌, Bool, false, ◌&&◌, List, [], ◌∷◌, ◌++◌, length}
use Rattle.std.specs.Prelude.{map, ◌⊎◌}
use Rattle.std.specs.List.{flat_map, range_with_len}
use Rattle.track_rings.specs.Rings.{IsSectorNumber, bytes_of, AreBytes}

-- The rows of a track: those before its first sector, those of each sector, and those after its
-- last one. The frame of a sector goes from the begin of its header to the end of its data.
pub record Rows (Row : Type 0) : Type 0 where
  pub lead_in : List Row
  pub before : List Row
  pub frame : List Row
  pub after : List Row
  pub lead_out : List Row

-- all rows of a sector
abbrev pub sector_rows : {Row : Type 0} → Rows Row → List Row
sector_rows rows = rows.before ++ (rows.frame ++ rows.after)

-- a row as it stands in a track: that of this sector, with these bytes
pub record TrackRow (Row : Type 0) : Type 0 where
  pub sector : ℕ
  pub bytes : List ℕ
  pub row : Row

abbrev pub parts_of : {Row : Type 0} → ℕ → List ℕ → List Row → List (TrackRow Row)
parts_of sector bytes rows = map (λ row. record { sector = sector; bytes = bytes; row = row }) rows

-- One sector of a track whose sectors are numbered from `first` and have `size`
-- bytes each, of the bytes of all.
unfoldable pub sector_parts : {Row : Type 0} → ℕ → ℕ → List ℕ → Rows Row → ℕ → List (TrackRow Row)
sector_parts first size bytes rows sector =
    parts_of sector (bytes_of first size bytes sector) (sector_rows rows)

-- The whole track, with so many sectors in the order of their numbers. Rows
-- outside of sectors have no bytes.
unfoldable pub track_parts : {Row : Type 0} → ℕ → ℕ → ℕ → List ℕ → Rows Row → List (TrackRow Row)
track_parts first sectors size bytes rows =
    parts_of first [] rows.lead_in
    ++ (flat_map (sector_parts first size bytes rows) (range_with_len first sectors)
    ++ parts_of first [] rows.lead_out)

-- the cell that cells end with, after a cell that stands before them
unfoldable pub last_of : Bool → List Bool → Bool
last_of before [] = before
last_of before (cell ∷ cells) = last_of cell cells

module _ {X : Type 0} (asks : Bool) (cells_of : Bool → X → List Bool) where
  -- What stands one after another, as cells. Where the coding asks for the cell before, each gets
  -- the last one before it, and else a zero.
  unfoldable pub coded : Bool → List X → List Bool
  coded before [] = []
  coded before (x ∷ xs) = cells_of before x ++ coded (asks && last_of before (cells_of before x)) xs

-- the sum of what each of them has
unfoldable pub total : {X : Type 0} → (X → ℕ) → List X → ℕ
total size_of [] = 0
total size_of (x ∷ xs) = size_of x + total size_of xs

-- the cells of a row of a track, and how many they are
abbrev pub part_cells : {Row : Type 0} → (Bool → ℕ → List ℕ → Row → List Bool) → Bool → TrackRow Row
    → List Bool
part_cells cells_of before part = cells_of before part.sector part.bytes part.row

abbrev pub part_size : {Row : Type 0} → (ℕ → Row → ℕ) → TrackRow Row → ℕ
part_size size_of part = size_of (length part.bytes) part.row

module _ {Row : Type 0} (asks : Bool) (cells_of : Bool → ℕ → List ℕ → Row → List Bool) where
  -- rows for this sector with these bytes, after a cell before them
  unfoldable pub rows_cells : Bool → ℕ → List ℕ → List Row → List Bool
  rows_cells before sector bytes rows =
      coded asks (part_cells cells_of) before (parts_of sector bytes rows)

  -- The ring of a track. The cell before its first one is a zero.
  unfoldable pub ring_of : ℕ → ℕ → ℕ → List ℕ → Rows Row → List Bool
  ring_of first sectors size bytes rows =
      coded asks (part_cells cells_of) false (track_parts first sectors size bytes rows)

module _ {Row : Type 0} (size_of : ℕ → Row → ℕ) where
  -- the cells from one sector to the next
  abbrev pub pitch_of : ℕ → Rows Row → ℕ
  pitch_of size rows = total (size_of size) (sector_rows rows)

  -- the place of a sector's frame in the ring
  abbrev pub place_of : ℕ → ℕ → Rows Row → ℕ → ℕ
  place_of first size rows sector =
      total (size_of 0) rows.lead_in + (sector - first) * pitch_of size rows
      + total (size_of size) rows.before

  -- the cells of a frame
  abbrev pub frame_size : ℕ → Rows Row → ℕ
  frame_size size rows = total (size_of size) rows.frame

  -- the cells of a ring
  abbrev pub ring_size : ℕ → ℕ → Rows Row → ℕ
  ring_size sectors size rows = total (size_of 0) rows.lead_in + sectors * pitch_of size rows
      + total (size_of 0) rows.lead_out

-- A number of a track's sectors, and the bytes of one of them, or none, as
-- rows outside of sectors have.
pub record IsContent (first sectors size sector : ℕ) (bytes : List ℕ) : Type 0 where
  pub number : IsSectorNumber first sectors sector
  pub whole : (length bytes ≡ 0) ⊎ (length bytes ≡ size)
  pub fit : AreBytes bytes

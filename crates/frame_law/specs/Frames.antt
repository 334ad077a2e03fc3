-- A sector on a track, said once for every recording: its header, and after it its data. What a
-- header names and what data hold each recording says for itself.
use Rattle.std.specs.Prelude.{◌≡◌, ℕ, ◌+◌, ◌-◌, ◌^◌, ◌<◌, ◌≤◌, Bool, List, length, take}
use Rattle.cell_bits.specs.Broken.{Unbroken}
use Rattle.cell_bits.specs.Word.{Stands}
use Rattle.flux_base.specs.Bounds.{LONGEST_RING}
use Rattle.track_rings.specs.Rings.{IsSectorNumber}

-- A header: it begins with the sync, names a sector of the track, and is
-- whole and unbroken to its end.
pub record HeaderStands (sync sync_cells : ℕ) (header_end : List Bool → ℕ) (first sectors : ℕ)
    (names : List Bool → ℕ → Type 0) (cells : List Bool) (sector : ℕ) : Type 0 where
  pub begins : Stands cells sync sync_cells 0
  pub whole : header_end cells ≤ length cells
  pub named : names cells sector
  pub known : IsSectorNumber first sectors sector
  pub unbroken : Unbroken cells 0 (header_end cells)

-- the data's sync begins less than this number of cells after the header
abbrev pub DATA_REACH : ℕ
DATA_REACH = 1024

-- the first of all syncs at places from `from` to below `to`
pub record IsFirstSync (is_sync : ℕ → Type 0) (from to sync : ℕ) : Type 0 where
  pub after : from ≤ sync
  pub near : sync < to
  pub stands : is_sync sync
  pub first : (place : ℕ) → from ≤ place → place < sync → ¬ is_sync place

-- no sync stands at a place from `from` to below `to`
abbrev pub NoSync : (ℕ → Type 0) → ℕ → ℕ → Type 0
NoSync is_sync from to = (place : ℕ) → from ≤ place → place < to → ¬ is_sync place

-- the data's sync: the first of all syncs after the header, and within reach
abbrev pub IsDataSync : ℕ → (ℕ → Type 0) → ℕ → Type 0
IsDataSync header_cells is_sync sync =
    IsFirstSync is_sync header_cells (header_cells + DATA_REACH) sync

-- a sync after the header and within reach
pub record IsSyncInReach (header_cells : ℕ) (is_sync : ℕ → Type 0) (sync : ℕ) : Type 0 where
  pub after : header_cells ≤ sync
  pub near : sync < header_cells + DATA_REACH
  pub stands : is_sync sync

-- The data after a header: they hold these bytes, and all cells from the header's
-- begin to their end are unbroken.
pub record DataStand (header_end : List Bool → ℕ) (data_end : List Bool → ℕ → ℕ)
    (is_sync : List Bool → ℕ → Type 0)
    (hold : List Bool → ℕ → List ℕ → Type 0) (cells : List Bool) (bytes : List ℕ) : Type 0 where
  pub sync : ℕ
  pub first_sync : IsDataSync (header_end cells) (is_sync cells) sync
  pub whole : data_end cells sync ≤ length cells
  pub held : hold cells sync bytes
  pub unbroken : Unbroken cells 0 (data_end cells sync)

-- a sector: its header and its data
pub record SectorStands (Header Content : Type 0) : Type 0 where
  pub header : Header
  pub content : Content

-- What a frame that is written has at its front: the sync, this sector's name, and at the data's
-- place the first sync after the header, with data that hold these bytes.
pub record FrameStands (sync sync_cells header_cells data_place : ℕ)
    (names : List Bool → ℕ → Type 0) (is_sync : List Bool → ℕ → Type 0)
    (hold : List Bool → ℕ → List ℕ → Type 0) (cells : List Bool) (sector : ℕ)
    (bytes : List ℕ) : Type 0 where
  pub begins : Stands cells sync sync_cells 0
  pub named : names cells sector
  pub opens : is_sync cells data_place
  pub first : (place : ℕ) → header_cells ≤ place → place < data_place → ¬ is_sync cells place
  pub held : hold cells data_place bytes

-- where a frame ends that is written: its header after so many cells, and its data, whose sync
-- stands at the data's place, after so many
pub record EndsAt (header_cells data_cells data_place : ℕ) (header_end : List Bool → ℕ)
    (data_end : List Bool → ℕ → ℕ) (cells : List Bool) : Type 0 where
  pub header_ends : header_end cells ≡ header_cells
  pub data_ends : data_end cells data_place ≡ data_place + data_cells

-- the distances of ones, the cells of a sync and of a header, and how many
-- zeros may stand last in a row
pub record AreSizes (shortest longest sync_cells header_cells zeros : ℕ) : Type 0 where
  pub some_cells : 1 ≤ sync_cells
  pub word : sync_cells ≤ 32
  pub apart : 1 ≤ shortest
  pub order : shortest ≤ longest
  pub near : longest ≤ 4
  pub header : 4 ≤ header_cells
  pub last : 1 ≤ zeros

-- the data of a frame that is written begin after its header, within reach, and a frame has no
-- more cells than a ring may have
pub record IsWithinReach (header_cells data_place data_cells : ℕ) : Type 0 where
  pub after : header_cells ≤ data_place
  pub near : data_place < header_cells + DATA_REACH
  pub few : data_place + data_cells ≤ LONGEST_RING

-- The cells of a frame as they were recovered: its data stand at the place at which they are
-- written, and all cells but the last seven are those of its rows, after some cell before them.
-- (The last seven may be zeros of an erased stretch.)
pub record AreCellsOfRows (rows : Bool → List Bool) (data_place frame_cells : ℕ)
    (cells : List Bool) (place : ℕ) : Type 0 where
  pub place_is : place ≡ data_place
  pub before : Bool
  pub same : take (frame_cells - 7) cells ≡ take (frame_cells - 7) (rows before)

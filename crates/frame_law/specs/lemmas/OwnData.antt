-- Where data stand in a ring: only where they were written.
use Rattle.std.specs.Prelude.{◌≡◌, ℕ, ◌+◌, ◌<◌, ◌≤◌, ◌⊎◌, Bool, List, length, drop, Option}
use Rattle.track_rings.specs.lemmas.Owning.{IsPlaceIn}
use Rattle.track_rings.specs.lemmas.Syncs.{Only, Syncs}
use Rattle.frame_law.specs.Frames.{DATA_REACH}
use Rattle.cell_bits.specs.Word.{Stands}
use Rattle.flux_base.specs.declared.header_name.HeaderName.{HeaderName}

-- the data have no sync but the place where their header ends
abbrev pub BeginAtOnce : (List Bool → ℕ) → (List Bool → ℕ → Type 0) → Type 0
BeginAtOnce header_end is_sync =
    (cells : List Bool) (sync : ℕ) → is_sync cells sync → sync ≡ header_end cells

-- a header that stands after another is a data sync too, or the data begin where their header ends
abbrev pub AreSyncsOrNone : ℕ → ℕ → (List Bool → ℕ) → (List Bool → HeaderName → Type 0)
    → (List Bool → ℕ → Type 0) → Type 0
AreSyncsOrNone sync sync_cells header_end names is_sync =
    ((cells : List Bool) (place : ℕ) (name : HeaderName)
    → Stands (drop place cells) sync sync_cells 0 → names (drop place cells) name
    → is_sync cells place)
    ⊎ BeginAtOnce header_end is_sync

-- where data begin in a frame that is written, so many cells after their sync does;
-- and anywhere within its header
abbrev pub IsDataOffset : ℕ → ℕ → ℕ → ℕ → Type 0
IsDataOffset header_cells data_place lead offset =
    (offset ≡ data_place + lead) ⊎ (offset < header_cells)

-- Data that hold bytes have cells of this pattern so many cells after the begin of their sync, and
-- in the ring of given bytes, where another follows it, such cells begin only where data do, and
-- within headers. What lies within reach of a header lies in its frame.
pub record HasOwnDataSyncs (header_cells data_cells data_place first sectors : ℕ)
    (header_end : List Bool → ℕ) (is_sync : List Bool → ℕ → Type 0)
    (hold : List Bool → ℕ → List ℕ → Type 0) (place_of : ℕ → ℕ) (Given : List ℕ → Type 0)
    (ring : List ℕ → List Bool) : Type 0 where
  pub lead : ℕ
  pub pattern : List (Option Bool)
  pub short : lead + length pattern + 7 ≤ data_cells
  pub near : (cells : List Bool) → header_end cells + DATA_REACH + lead ≤ data_place + data_cells
  pub leads : (cells : List Bool) (sync : ℕ) (bytes : List ℕ) → is_sync cells sync
      → hold cells sync bytes
      → Syncs pattern (drop (sync + lead) cells)
  pub only : (bytes : List ℕ) → Given bytes
      → Only (Syncs pattern)
      (IsPlaceIn place_of first sectors (IsDataOffset header_cells data_place lead))
      (ring bytes) (ring bytes)

-- A written track, and what is known of how it is read, whatever its recording.
use Rattle.std.specs.Prelude.{◌≡◌, ℕ, ◌+◌, ◌≤◌, Bool, List, drop, length}
use Rattle.track_rings.specs.OwnSectors.{IsAloneWithin, between_zeros}
use Rattle.track_rings.specs.Rings.{IsSectorNumber, LiesAt, stretch}

-- The ring of cells, the place in it at which each sector's frame begins, how many cells a frame
-- has, the number of the first sector, how many sectors there are, and the bytes of each.
pub record WrittenTrack : Type 0 where
  pub ring : List Bool
  pub begin_of : ℕ → ℕ
  pub frame_cells : ℕ
  pub first : ℕ
  pub sectors : ℕ
  pub bytes_of : ℕ → List ℕ

-- this is the number of one of the track's sectors
abbrev pub HasSector : WrittenTrack → ℕ → Type 0
HasSector track sector = IsSectorNumber track.first track.sectors sector

-- What is known of how a written track is read, by the relation "this sector stands at the front of
-- the cells with these bytes": what stands depends on its own cells alone, which have no `zeros`
-- zeros in a row, a sector that stands in a stretch of the ring between zeros has its own bytes,
-- and it stands wherever its frame lies whole.
pub record IsReadWithin (zeros : ℕ) (sector : List Bool → ℕ → List ℕ → Type 0)
    (track : WrittenTrack) : Type 0 where
  pub alone : (cells : List Bool) (s : ℕ) (bytes : List ℕ) → sector cells s bytes
      → IsAloneWithin zeros (λ others. sector others s bytes) cells
  pub own : (s : ℕ) (bytes : List ℕ) (before from count after place : ℕ)
      → sector (drop place (between_zeros track.ring before from count after)) s bytes
      → bytes ≡ track.bytes_of s
  pub stands : (s from count place : ℕ) → HasSector track s
      → LiesAt (length track.ring) (track.begin_of s) track.frame_cells from count place
      → sector (drop place (stretch track.ring from count)) s (track.bytes_of s)
  pub whole : (s : ℕ) → HasSector track s → track.begin_of s + track.frame_cells ≤ length track.ring
  pub some : 1 ≤ track.frame_cells

-- the same where what stands is unbroken
abbrev pub IsReadBy : (List Bool → ℕ → List ℕ → Type 0) → WrittenTrack → Type 0
IsReadBy sector track = IsReadWithin 8 sector track

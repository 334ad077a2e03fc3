-- What a captured disk decodes to.
use Rattle.std.specs.Prelude.{◌≡◌, ◌⊎◌, ℕ, List, drop, replicate, None}
use Rattle.sector_images.specs.Formats.{row}
use Rattle.sector_images.specs.declared.format.Format.{Format}
use Rattle.sector_report.specs.Lines.{sector_text}
use Rattle.turn_merge.specs.declared.verdict.Place.{Place}
use Rattle.turn_merge.specs.declared.verdict.Verdict.{Verdict}
use Rattle.turn_merge.specs.declared.verdict.Verdict.TheVariants.{Good}
use Rattle.law_decoded_rings.specs.Verdicts.{LiesInOnePiece, StandsInOnePiece}
use Rattle.flux_engine.specs.DiskLaws.{HasLine, bytes_at, cells_at, line_number}
use Rattle.library_calls.specs.Disks.{Decoded, IsDecoded}
use Rattle.disk_recordings.specs.Members.{sector_at}
use Rattle.flux_engine.specs.Recordings.{track_at}
use Rattle.flux_engine.specs.Rings.{IsImage, sector_bytes, streams_of}
use Rattle.law_captured_disks.specs.Frames.{written_track}
use Rattle.law_captured_disks.specs.Inputs.{IsCapturedDisk, IsErasedDisk}
use Rattle.law_captured_disks.specs.Headline.{IsSectorOf, IsBadOrMissing, pieces_of}

-- the report's line of a sector of track number n names this verdict
abbrev pub Says : Format → Decoded → (n sector : ℕ) → Verdict → Type 0
Says format o n sector outcome =
    HasLine o.notes (sector_text (track_at format n) sector outcome) (line_number format n sector)

-- the sector's line says good, with these numbers of good and of bad readings and
-- this place of the first good one
pub record SaysGood (format : Format) (o : Decoded) (n sector : ℕ) : Type 0 where
  pub good : ℕ
  pub bad : ℕ
  pub first : Place
  pub line : Says format o n sector (Good good bad first)

-- the sector's line says bad or missing
pub record SaysLost (format : Format) (o : Decoded) (n sector : ℕ) : Type 0 where
  pub outcome : Verdict
  pub lost : IsBadOrMissing outcome
  pub line : Says format o n sector outcome

-- All tracks are decoded, the decoded image is this one, all sectors are counted as good, and
-- each sector's line says good.
pub record DecodesWhole (format : Format) (image : List ℕ) (o : Decoded) : Type 0 where
  pub no_stop : o.stop ≡ None
  pub image_is : o.image ≡ image
  pub all_good : o.totals.good ≡ o.totals.sectors
  pub lines : (n sector : ℕ) → IsSectorOf format n sector → SaysGood format o n sector

-- The headline: from any streams that carry an image's written tracks, disturbed within the bounds,
-- decoding gives exactly that image, every sector good.
abbrev pub CapturedDisksDecode : Type 0
CapturedDisksDecode = (format : Format) (image x : List ℕ) (o : Decoded) → IsImage format image
    → IsCapturedDisk format image x
    → IsDecoded format x o → DecodesWhole format image o

-- So what is written of an image decodes to it.
abbrev pub WrittenDisksDecode : Type 0
WrittenDisksDecode = (format : Format) (image : List ℕ) (o : Decoded) → IsImage format image
    → IsDecoded format (streams_of format image) o → DecodesWhole format image o

-- the sector's line says good, and the decoded image has its bytes
abbrev pub IsKept : Format → List ℕ → Decoded → (n sector : ℕ) → Type 0
IsKept format image o n sector =
    SaysGood format o n sector
    × (bytes_at format o.image (track_at format n) sector
    ≡ sector_bytes format (track_at format n) image sector)

-- the sector's line says bad or missing, and the decoded image has zeros in its place
abbrev pub IsLost : Format → Decoded → (n sector : ℕ) → Type 0
IsLost format o n sector =
    SaysLost format o n sector
    × (bytes_at format o.image (track_at format n) sector ≡ replicate (row format).sector_size 0)

-- All tracks are decoded. A sector of which one place, with its whole frame, lies in one piece of
-- its track is kept; every other one is kept or lost, so that no line says contradictory; and no
-- place at which a sector stands whole, as at each good reading, has cells of two pieces.
pub record DecodesRest (format : Format) (image x : List ℕ) (o : Decoded)
    (disk : IsErasedDisk format image x) : Type 0 where
  pub no_stop : o.stop ≡ None
  pub in_one_piece : (n sector : ℕ) (is : IsSectorOf format n sector)
      → LiesInOnePiece (written_track format image n) (pieces_of format image x disk n is.track)
      sector
      → IsKept format image o n sector
  pub each : (n sector : ℕ) → IsSectorOf format n sector
      → IsKept format image o n sector ⊎ IsLost format o n sector
  pub of_one_piece : (n sector : ℕ) (is : IsSectorOf format n sector) (place : ℕ) (bytes : List ℕ)
      → sector_at format (track_at format n) (drop place (cells_at format x n)) sector bytes
      → StandsInOnePiece (λ cells. sector_at format (track_at format n) cells sector bytes)
      (pieces_of format image x disk n is.track) (cells_at format x n) place

-- Erased stretches do no harm beyond them.
abbrev pub ErasedDisksDecode : Type 0
ErasedDisksDecode = (format : Format) (image x : List ℕ) (o : Decoded) → IsImage format image
    → (disk : IsErasedDisk format image x)
    → IsDecoded format x o → DecodesRest format image x o disk

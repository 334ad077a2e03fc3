-- What the definitions of a decoded track and disk come to, in plain words.
use Rattle.std.specs.Prelude.{◌≡◌, ◌≤◌, ℕ, ◌-◌, ◌++◌, List, length, take, drop, Some}
use Rattle.flux_base.specs.declared.track.TrackId.{TrackId}
use Rattle.sector_images.specs.Formats.{row}
use Rattle.sector_images.specs.Places.{IsSector, place_of, sector_place, tracks}
use Rattle.sector_images.specs.declared.format.Format.{Format}
use Rattle.turn_merge.specs.Readings.{verdict}
use Rattle.turn_merge.specs.declared.verdict.Place.{Place}
use Rattle.turn_merge.specs.declared.verdict.Verdict.TheVariants.{Good}
use Rattle.library_calls.specs.Disks.{AreParts, Decoded, IsDecoded, Stop, IsPart}
use Rattle.flux_engine.specs.Disks.{images, lines}
use Rattle.disk_recordings.specs.Members.{sector_at}
use Rattle.flux_engine.specs.Recordings.{cells_of}
use Rattle.flux_engine.specs.Tracks.{TrackPart, place_at, readings_of}

-- an input comes to one outcome
abbrev pub OneOutcome : Type 0
OneOutcome = (format : Format) (x : List ℕ) (a b : Decoded) → IsDecoded format x a
    → IsDecoded format x b → a ≡ b

-- the whole begins with the part
abbrev pub BeginsWith : List ℕ → List ℕ → Type 0
BeginsWith whole part = (rest : List ℕ) × (whole ≡ part ++ rest)

-- what the first tracks of an input come to is what the outcome begins with
abbrev pub FirstTracksLead : Type 0
FirstTracksLead = (format : Format) (x : List ℕ) (parts : List TrackPart) (o : Decoded)
    → AreParts format x parts → length parts ≤ length (tracks format)
    → IsDecoded format x o → BeginsWith o.image (images parts) × BeginsWith o.notes (lines parts)

-- what the first tracks of an input come to is what they come to in every longer input
abbrev pub PartsStay : Type 0
PartsStay = (format : Format) (x later : List ℕ) (parts : List TrackPart) → AreParts format x parts
    → AreParts format (x ++ later) parts

-- what an input comes to that ends before all its tracks do is what the outcome of
-- every longer input begins with
abbrev pub CutInputsLead : Type 0
CutInputsLead = (format : Format) (x later : List ℕ) (d o : Decoded) (stop : Stop)
    → IsDecoded format x d → d.stop ≡ Some stop
    → IsDecoded format (x ++ later) o → BeginsWith o.image d.image × BeginsWith o.notes d.notes

-- A sector of a track is good with its first good reading at this place: there the recovered cells
-- of the track hold the sector, with its header, data and check values, in the turn that the place
-- names; its bytes are those at its place in the track's part of the image; and each place whose
-- cells hold this sector holds the same bytes.
pub record IsRightlyGood (format : Format) (track : TrackId) (times indexes : List ℕ)
    (part : TrackPart) (sector : ℕ) (first : Place) : Type 0 where
  pub bytes : List ℕ
  pub stands : sector_at format track (drop first.cell (cells_of format track times indexes)) sector
      bytes
  pub turn : first ≡ place_at times indexes (cells_of format track times indexes) first.cell
  pub in_image : take (row format).sector_size
      (drop (sector_place format track sector - place_of format track) part.image)
      ≡ bytes
  pub agreed : (place : ℕ) (others : List ℕ)
      → sector_at format track (drop place (cells_of format track times indexes)) sector others
      → others ≡ bytes

-- wherever the verdict on a sector is good
abbrev pub GoodIsRight : Type 0
GoodIsRight = (format : Format) (track : TrackId) (times indexes : List ℕ) (part : TrackPart)
    (is : IsPart format track times indexes part)
    (sector good bad : ℕ) (first : Place) → IsSector format track sector
    → verdict (readings_of times indexes (cells_of format track times indexes) is.found) sector
    ≡ Good good bad first
    → IsRightlyGood format track times indexes part sector first

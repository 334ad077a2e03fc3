-- What the definition of a set comes to.
use Rattle.std.specs.Prelude.{◌≡◌, ℕ, List}
use Rattle.sector_images.specs.declared.format.Format.{Format}
use Rattle.turn_merge.specs.Readings.{NotedReading, verdict}
use Rattle.turn_merge.specs.declared.verdict.Place.{Place}
use Rattle.turn_merge.specs.declared.verdict.Verdict.TheVariants.{Good}
use Rattle.library_calls.specs.Disks.{IsPartAt}
use Rattle.flux_engine.specs.PlanLaws.{IsRightlyGood}
use Rattle.flux_engine.specs.Plans.{Planned, joined, set_plan}
use Rattle.flux_engine.specs.Recordings.{sectors_of, track_at}
use Rattle.flux_engine.specs.Tracks.{TrackPart, image_bytes}
use Rattle.library_calls.specs.Sets.{IsDecodedSet, IsSetPartAt, set_streams}

-- an input comes to one outcome
abbrev pub OneSet : Type 0
OneSet = (format : Format) (count : ℕ) (x : List ℕ) (a b : Planned) → IsDecodedSet format count x a
    → IsDecodedSet format count x b → a ≡ b

-- With one capture of each track, a track has the image and the totals of a track that
-- is decoded from its one stream.
pub record HasOneCapture (format : Format) (x : List ℕ) (n : ℕ) (part : TrackPart) : Type 0 where
  pub plain : TrackPart
  pub is : IsPartAt format x n plain
  pub image_is : part.image ≡ plain.image
  pub totals_are : part.totals ≡ plain.totals

abbrev pub SetsOfOneAreDecoded : Type 0
SetsOfOneAreDecoded = (format : Format) (x : List ℕ) (n : ℕ) (part : TrackPart)
    → IsSetPartAt format 1 x n part → HasOneCapture format x n part

-- A sector of track number n is good with its first good reading named by this place: it is a place
-- of one of the captures, in its turn there, whose cells hold the sector, with its sync, header,
-- data and check values; the track's part of the image has these bytes for the sector; and each
-- place of any capture whose cells hold this sector holds the same bytes.
abbrev pub IsRightlyGoodInSet : Format → (count : ℕ) → (x : List ℕ) → (n : ℕ) → List NotedReading
    → (sector : ℕ) → (first : Place) → Type 0
IsRightlyGoodInSet format count x n readings sector first =
    IsRightlyGood (set_plan count) format (set_streams count x) n
    (image_bytes (sectors_of format (track_at format n)) readings sector) sector first

-- wherever the verdict on a sector over all captures of a track is good
abbrev pub GoodIsRightInSets : Type 0
GoodIsRightInSets = (format : Format) (count : ℕ) (x : List ℕ) (n : ℕ) (part : TrackPart)
    (is : IsSetPartAt format count x n part)
    (sector good bad : ℕ) (first : Place)
    → verdict (joined is.captures) sector ≡ Good good bad first
    → IsRightlyGoodInSet format count x n (joined is.captures) sector first

-- What the definition of a disk that is read by a plan comes to.
use Rattle.std.specs.Prelude.{◌≡◌, ◌<◌, ◌≤◌, ◌⊎◌, ℕ, Bool, Contains, List, ◌++◌, drop, length, Some}
use Rattle.disk_recordings.specs.Members.{header_at, sector_at}
use Rattle.frame_law.specs.Readings.{AreReadings}
use Rattle.sector_images.specs.Formats.{row}
use Rattle.sector_images.specs.declared.format.Format.{Format}
use Rattle.turn_merge.specs.Readings.{NotedReading, agreed, verdict}
use Rattle.turn_merge.specs.declared.clock.Clock.{Clock}
use Rattle.turn_merge.specs.declared.clock.Clock.TheVariants.{Following}
use Rattle.turn_merge.specs.declared.verdict.Place.{Place}
use Rattle.turn_merge.specs.declared.verdict.Verdict.TheVariants.{Contradictory, Good}
use Rattle.flux_engine.specs.Captured.{IsUsed}
use Rattle.flux_engine.specs.Plans.{AreCaptures, IsPlanned, PartOf, Planned, Streams, joined}
use Rattle.flux_engine.specs.Recordings.{cells_by, sectors_of, track_at}
use Rattle.flux_engine.specs.Tracks.{Found, image_bytes, place_in, readings_in}
use Rattle.flux_engine.specs.Rules.{AreAllBy, StandsBy}
use Rattle.flux_engine.specs.declared.plan.Plan.{Plan}
use Rattle.flux_engine.specs.declared.plan.Rule.{Rule}

-- streams come to one outcome
abbrev pub OnePlanned : Type 0
OnePlanned = (plan : Plan) (of : PartOf) (format : Format) (streams : Streams) (a b : Planned)
    → IsPlanned plan of format streams a → IsPlanned plan of format streams b → a ≡ b

-- the first captures of a track have one list of readings each
abbrev pub ReadingsInPlansAreOne : Type 0
ReadingsInPlansAreOne =
    (plan : Plan) (format : Format) (streams : Streams) (n : ℕ) (a b : List (List NotedReading))
    → AreCaptures plan format streams n a → AreCaptures plan format streams n b
    → length a ≡ length b → a ≡ b

-- the cells that a clock recovers of a capture of track number n
abbrev pub cells_in : Format → Streams → (n q : ℕ) → Clock → List Bool
cells_in format streams n q clock =
    cells_by clock format (track_at format n) (streams n q).times (streams n q).indexes

-- these cells hold this sector at the place by a rule, with its sync, header, data and check values
abbrev pub StandsIn : Rule → Format → Streams → (n q : ℕ) → Clock → (place sector : ℕ) → List ℕ
    → Type 0
StandsIn rule format streams n q clock place sector bytes =
    StandsBy rule format (track_at format n) (drop place (cells_in format streams n q clock)) sector
    bytes

-- what is named is a place of a capture, by a clock of the plan, in its turn there, and
-- the cells hold this sector there
pub record IsNamedIn (plan : Plan) (format : Format) (streams : Streams) (n : ℕ) (named : Place)
    (sector : ℕ) (bytes : List ℕ) : Type 0 where
  pub capture : ℕ
  pub low : capture < plan.captures
  pub clock : Clock
  pub used : IsUsed plan.clocks clock
  pub place : ℕ
  pub is : named
      ≡ place_in capture clock (streams n capture).times (streams n capture).indexes
      (cells_in format streams n capture clock) place
  pub stands : StandsIn plan.rule format streams n capture clock place sector bytes

-- each good reading names such a place
abbrev pub GoodReadingsStandInPlans : Type 0
GoodReadingsStandInPlans = (plan : Plan) (format : Format) (streams : Streams) (n : ℕ)
    (captures : List (List NotedReading))
    → length captures ≡ plan.captures → AreCaptures plan format streams n captures
    → (reading : NotedReading) (bytes : List ℕ) → Contains (joined captures) reading
    → reading.bytes ≡ Some bytes
    → IsNamedIn plan format streams n reading.place reading.sector bytes

-- A sector of track number n, of which the image holds these bytes, is rightly called good, and its
-- first good reading is at this place: it is a place of a capture, by a clock of the plan, in its
-- turn there, whose cells hold the sector, with its sync, header, data and check values, as many
-- bytes as the format's sectors have; they are those that the image holds; and each place of the
-- track whose cells hold it, of any capture and by any clock of the plan, holds the same bytes.
pub record IsRightlyGood (plan : Plan) (format : Format) (streams : Streams) (n : ℕ)
    (held : List ℕ) (sector : ℕ) (first : Place) : Type 0 where
  pub bytes : List ℕ
  pub size : length bytes ≡ (row format).sector_size
  pub named : IsNamedIn plan format streams n first sector bytes
  pub in_image : held ≡ bytes
  pub agreed : (q : ℕ) (clock : Clock) (place : ℕ) (others : List ℕ) → q < plan.captures
      → IsUsed plan.clocks clock
      → StandsIn plan.rule format streams n q clock place sector others → others ≡ bytes

-- wherever the verdict on a sector over all readings of a track is good
abbrev pub GoodIsRightInPlans : Type 0
GoodIsRightInPlans = (plan : Plan) (format : Format) (streams : Streams) (n : ℕ)
    (captures : List (List NotedReading))
    → length captures ≡ plan.captures → AreCaptures plan format streams n captures
    → (sector good bad : ℕ) (first : Place) → verdict (joined captures) sector ≡ Good good bad first
    → IsRightlyGood plan format streams n
    (image_bytes (sectors_of format (track_at format n)) (joined captures) sector) sector first

-- A sector is contradictory with these two places named: the cells that each names hold the
-- sector there, with other bytes.
pub record IsRightlyContradictoryIn (plan : Plan) (format : Format) (streams : Streams)
    (n sector : ℕ) (first other : Place) : Type 0 where
  pub bytes : List ℕ
  pub others : List ℕ
  pub named : IsNamedIn plan format streams n first sector bytes
  pub contradicted : IsNamedIn plan format streams n other sector others
  pub differ : ¬ (others ≡ bytes)

abbrev pub ContradictionsAreNamedInPlans : Type 0
ContradictionsAreNamedInPlans = (plan : Plan) (format : Format) (streams : Streams) (n : ℕ)
    (captures : List (List NotedReading))
    → length captures ≡ plan.captures → AreCaptures plan format streams n captures
    → (sector good bad : ℕ) (first other : Place)
    → verdict (joined captures) sector ≡ Contradictory good bad first other
    → IsRightlyContradictoryIn plan format streams n sector first other

-- the readings of the first capture by the clock that follows the drive, where all
-- of these are found in its cells
abbrev pub first_readings : Format → Streams → (n : ℕ) → List Found → List NotedReading
first_readings format streams n found =
    readings_in 0 Following (streams n 0).times (streams n 0).indexes
    (cells_in format streams n 0 Following) found

-- they are the first of all
abbrev pub FirstReadingsLead : Type 0
FirstReadingsLead = (plan : Plan) (format : Format) (streams : Streams) (n : ℕ)
    (captures : List (List NotedReading)) (found : List Found)
    → 1 ≤ plan.captures → length captures ≡ plan.captures
    → AreCaptures plan format streams n captures
    → AreAllBy plan.rule format (track_at format n) (cells_in format streams n 0 Following) found
    → (rest : List NotedReading) × (joined captures ≡ first_readings format streams n found ++ rest)

-- over more readings a sector is good with the same first place and the same bytes, or
-- contradictory with the same first place
abbrev pub StaysGoodOrIsContradicted : (readings longer : List NotedReading) → (sector : ℕ)
    → (first : Place) → Type 0
StaysGoodOrIsContradicted readings longer sector first =
    ((good bad : ℕ) × (verdict longer sector ≡ Good good bad first)
    × (agreed longer sector ≡ agreed readings sector))
    ⊎ ((good bad : ℕ) × (other : Place)
    × (verdict longer sector ≡ Contradictory good bad first other))

-- A sector that is good by the first capture alone and the clock that follows the drive is so by
-- all, with the same first place and the same bytes, or contradictory, with the same first place.
abbrev pub FirstSourceStaysGood : Type 0
FirstSourceStaysGood = (plan : Plan) (format : Format) (streams : Streams) (n : ℕ)
    (captures : List (List NotedReading)) (found : List Found)
    → 1 ≤ plan.captures → length captures ≡ plan.captures
    → AreCaptures plan format streams n captures
    → AreAllBy plan.rule format (track_at format n) (cells_in format streams n 0 Following) found
    → (sector good bad : ℕ) (first : Place)
    → verdict (first_readings format streams n found) sector ≡ Good good bad first
    → StaysGoodOrIsContradicted (first_readings format streams n found) (joined captures) sector
    first

-- over more readings a sector is good with the same bytes, or contradictory
abbrev pub IsGoodTooOrContradicted : (readings others : List NotedReading) → (sector : ℕ) → Type 0
IsGoodTooOrContradicted readings others sector =
    ((good bad : ℕ) × (first : Place) × (verdict others sector ≡ Good good bad first)
    × (agreed others sector ≡ agreed readings sector))
    ⊎ ((good bad : ℕ) × (first other : Place)
    × (verdict others sector ≡ Contradictory good bad first other))

-- A sector that is good by the strict rule over the readings of one capture by a clock of the plan
-- is good by the plan's rule over all readings, with the same bytes, or contradictory. (Its first
-- place may be another: by the other rule more stands.)
abbrev pub StrictGoodStays : Type 0
StrictGoodStays = (plan : Plan) (format : Format) (streams : Streams) (n : ℕ)
    (captures : List (List NotedReading))
    → length captures ≡ plan.captures → AreCaptures plan format streams n captures
    → (q : ℕ) → q < plan.captures → (clock : Clock) → IsUsed plan.clocks clock
    → (found : List Found)
    → AreReadings (header_at format (track_at format n)) (sector_at format (track_at format n))
    (cells_in format streams n q clock) 0 found
    → let strict = readings_in q clock (streams n q).times (streams n q).indexes
    (cells_in format streams n q clock) found in
    (sector good bad : ℕ) (first : Place) → verdict strict sector ≡ Good good bad first
    → IsGoodTooOrContradicted strict (joined captures) sector

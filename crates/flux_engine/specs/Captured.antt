-- The readings of one stream among those of all streams that capture a track,
-- or among those by two clocks.
use Rattle.std.specs.Prelude.{◌≡◌, ℕ, Bool, List, ◌++◌, map}
use Rattle.flux_base.specs.declared.track.TrackId.{TrackId}
use Rattle.sector_images.specs.declared.format.Format.{Format}
use Rattle.turn_merge.specs.Book.{Knowledge, StandsFor}
use Rattle.turn_merge.specs.Others.{NotedOther, OthersKnown, OthersStandFor}
use Rattle.turn_merge.specs.Readings.{NotedReading}
use Rattle.flux_engine.specs.Recordings.{cells_by}
use Rattle.flux_engine.specs.declared.plan.Clocks.{Clocks}
use Rattle.flux_engine.specs.declared.plan.Clocks.TheVariants.{FollowingAlone, Both}
use Rattle.flux_engine.specs.declared.plan.Rule.{Rule}
use Rattle.flux_engine.specs.declared.plan.Rule.TheVariants.{Strict}
use Rattle.flux_engine.specs.Rules.{AreAllBy, AreNamesIn, AreOthersBy, OtherFound}
use Rattle.flux_engine.specs.Tracks.{Found, place_in, readings_in}
use Rattle.turn_merge.specs.declared.clock.Clock.{Clock}
use Rattle.turn_merge.specs.declared.clock.Clock.TheVariants.{Following, Held}

-- These are all that can be read by a rule on a track with these transitions and index times in the
-- cells that the clock recovers, each with its turn in this stream, and with the number of the
-- stream among those that capture the track.
pub record AreReadingsBy (rule : Rule) (clock : Clock) (format : Format) (track : TrackId)
    (times indexes : List ℕ) (capture : ℕ) (readings : List NotedReading) : Type 0 where
  pub found : List Found
  pub all : AreAllBy rule format track (cells_by clock format track times indexes) found
  pub are : readings
      ≡ readings_in capture clock times indexes (cells_by clock format track times indexes) found

-- all that can be read by the strict rule and the clock that follows the drive's speed
abbrev pub AreReadingsAt : Format → TrackId → (times indexes : List ℕ) → (capture : ℕ)
    → List NotedReading → Type 0
AreReadingsAt format track times indexes capture readings =
    AreReadingsBy Strict Following format track times indexes capture readings

-- the clock is one of those
abbrev pub IsUsed : Clocks → Clock → Type 0
IsUsed FollowingAlone Following = Unit {0}
IsUsed FollowingAlone Held = ⊥
IsUsed Both clock = Unit {0}

-- how many clocks these are
abbrev pub count_of_clocks : Clocks → ℕ
count_of_clocks FollowingAlone = 1
count_of_clocks Both = 2

-- what is noted by each of them, joined
abbrev pub joined_by : {X : Type 0} → Clocks → (Clock → List X) → List X
joined_by FollowingAlone by_clock = by_clock Following
joined_by Both by_clock = by_clock Following ++ by_clock Held

-- these are all that can be read of a capture by a rule and these clocks, first by the one
-- that follows the drive's speed
pub record AreReadingsOf (rule : Rule) (clocks : Clocks) (format : Format) (track : TrackId)
    (times indexes : List ℕ) (capture : ℕ) (readings : List NotedReading) : Type 0 where
  pub by_clock : Clock → List NotedReading
  pub each : (clock : Clock) → IsUsed clocks clock
      → AreReadingsBy rule clock format track times indexes capture (by_clock clock)
  pub are : readings ≡ joined_by clocks by_clock

-- a call appends these readings, in their order, to whatever list of readings the book stands for
abbrev pub AppendsReadings : Knowledge → Knowledge → List NotedReading → Type 0
AppendsReadings old new more =
    (readings : List NotedReading) → StandsFor old readings → StandsFor new (readings ++ more)

-- an other that is found in the cells that a clock recovers of a capture, as it is noted
abbrev pub noted_other : ℕ → Clock → List ℕ → List ℕ → List Bool → ℕ × OtherFound → NotedOther
noted_other capture clock times indexes cells other =
    record { name = other.1.0; whole = other.1.1; place = place_in capture clock times indexes cells other.0 }

-- these are all that are so in the cells that the clock recovers
pub record AreNotedBy (AreAll : List Bool → List (ℕ × OtherFound) → Type 0) (clock : Clock)
    (format : Format) (track : TrackId) (times indexes : List ℕ) (capture : ℕ)
    (others : List NotedOther) : Type 0 where
  pub found : List (ℕ × OtherFound)
  pub all : AreAll (cells_by clock format track times indexes) found
  pub are : others
      ≡ map (noted_other capture clock times indexes (cells_by clock format track times indexes))
      found

-- and these are all of a capture by these clocks
pub record AreNotedOf (AreAll : List Bool → List (ℕ × OtherFound) → Type 0) (clocks : Clocks)
    (format : Format) (track : TrackId) (times indexes : List ℕ) (capture : ℕ)
    (others : List NotedOther) : Type 0 where
  pub by_clock : Clock → List NotedOther
  pub each : (clock : Clock) → IsUsed clocks clock
      → AreNotedBy AreAll clock format track times indexes capture (by_clock clock)
  pub are : others ≡ joined_by clocks by_clock

-- all others on a track by a rule
abbrev pub AreOthersOfClock : Rule → Clock → Format → TrackId → (times indexes : List ℕ)
    → (capture : ℕ) → List NotedOther → Type 0
AreOthersOfClock rule clock format track times indexes capture others =
    AreNotedBy (AreOthersBy rule format track) clock format track times indexes capture others

abbrev pub AreOthersOf : Rule → Clocks → Format → TrackId → (times indexes : List ℕ) → (capture : ℕ)
    → List NotedOther → Type 0
AreOthersOf rule clocks format track times indexes capture others =
    AreNotedOf (AreOthersBy rule format track) clocks format track times indexes capture others

-- all headers of any name on a track that is none of the format's, by the
-- cells of this one of its tracks
abbrev pub AreNamesOf : Clocks → Format → (near : TrackId) → (times indexes : List ℕ)
    → (capture : ℕ) → List NotedOther → Type 0
AreNamesOf clocks format near times indexes capture others =
    AreNotedOf (AreNamesIn format) clocks format near times indexes capture others

-- a call appends these others, in their order, to whatever list of them is stood for
abbrev pub AppendsOthers : OthersKnown → OthersKnown → List NotedOther → Type 0
AppendsOthers old new more =
    (others : List NotedOther) → OthersStandFor old others → OthersStandFor new (others ++ more)

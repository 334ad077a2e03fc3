-- The readings of a track, gathered in a book.
use Rattle.std.specs.List.Sorted.{IsStrictlyIncreasing}
use Rattle.std.specs.Prelude.{◌≡◌, ◌<◌, ◌≤◌, ◌↔◌, IsTrue, ℕ, ◌+◌, ◌*◌, Bool, Contains, List, []}
use Rattle.std.specs.Prelude.{◌∷◌, ◌++◌, drop, flat_map, length, map, take}
use Rattle.cell_bits.specs.Ones.{ones}
use Rattle.frame_law.specs.Controller.{AreFound, HasHeaderData, HeaderData, readings_of}
use Rattle.frame_law.specs.Others.{IsOther}
use Rattle.frame_law.specs.declared.reading.FoundHeader.{FoundHeader}
use Rattle.frame_law.specs.declared.reading.FoundHeader.TheVariants.{Other, Sector}
use Rattle.frame_law.specs.declared.reading.Reading.{Reading as Frame}
use Rattle.frame_law.specs.declared.reading.Reading.TheVariants.{Nothing, Bad, Good}
use Rattle.frame_law.specs.Readings.{AreReadings}
use Rattle.flux_base.specs.declared.header_name.HeaderName.{HeaderName}
use Rattle.flux_base.specs.declared.track.TrackId.{TrackId}
use Rattle.sector_images.specs.declared.format.Format.{Format}
use Rattle.turn_merge.specs.Book.{Knowledge, IsKnown, StandsFor, SameShape}
use Rattle.turn_merge.specs.Readings.{NotedReading, bad_reading, good_reading}
use Rattle.turn_merge.specs.declared.verdict.Place.{Place}
use Rattle.flux_engine.specs.Captured.{AppendsOthers, AppendsReadings, AreOthersOf}
use Rattle.flux_engine.specs.Captured.{AreOthersOfClock, AreReadingsBy, AreReadingsOf}
use Rattle.flux_engine.specs.Captured.{count_of_clocks, noted_other}
use Rattle.flux_engine.specs.Room.{MOST_CELLS, MOST_READINGS}
use Rattle.flux_engine.specs.Rules.{AreOthersIn, IsOtherAt, OtherFound}
use Rattle.flux_engine.specs.Tracks.{Found, readings_in}
use Rattle.turn_merge.specs.Others.{NotedOther, OthersKnown}
use Rattle.turn_merge.specs.declared.clock.Clock.{Clock}
use Rattle.flux_engine.specs.declared.plan.Clocks.{Clocks}
use Rattle.flux_engine.specs.declared.plan.Rule.{Rule}
use Rattle.disk_recordings.specs.declared.sectors.Sectors.{Sectors}

-- cells that were recovered from these transitions: each has its one, the first
-- cell is a one, and there are few
pub record AreCellsOf (times : List ℕ) (cells : List Bool) : Type 0 where
  pub each : ones cells ≡ length times
  pub first : (place : ℕ) → place < length cells → 1 ≤ ones (take (place + 1) cells)
  pub few : length cells ≤ MOST_CELLS

-- the book knows of these sectors, and has no reading
pub record IsEmptyBook (sectors : Sectors) (book : Knowledge) : Type 0 where
  pub empty : StandsFor book []
  pub first : book.first_sector ≡ sectors.first
  pub count : length book.found ≡ sectors.count
  pub size : book.size ≡ sectors.size

-- the book knows of these sectors and keeps the bytes of each
pub record IsBookFor (sectors : Sectors) (book : Knowledge) : Type 0 where
  pub first : book.first_sector ≡ sectors.first
  pub count : length book.found ≡ sectors.count
  pub size : book.size ≡ sectors.size

-- what is read can be noted in the book
abbrev pub CanBeNoted : Knowledge → Frame → List ℕ → Type 0
CanBeNoted book Nothing bytes = Unit {0}
CanBeNoted book (Bad sector) bytes = IsKnown book sector
CanBeNoted book (Good sector) bytes = IsKnown book sector × (length bytes ≡ book.size)

-- a header that is found is one of a sector that the book knows, or an other
abbrev pub IsFoundIn : Knowledge → FoundHeader → Type 0
IsFoundIn book (Sector sector) = IsKnown book sector
IsFoundIn book (Other name) = Unit {0}

-- all that can be read in the cells, which a clock recovered of a capture, was noted in the book
pub record Gathers (AreAll : List Found → Type 0) (times indexes : List ℕ) (cells : List Bool)
    (capture : ℕ) (clock : Clock) (old new : Knowledge) : Type 0 where
  pub found : List Found
  pub all : AreAll found
  pub noted : AppendsReadings old new (readings_in capture clock times indexes cells found)
  pub shape : SameShape old new
  pub few : new.notes ≤ old.notes + MOST_READINGS

-- The walk has come to a place: what was found before it is noted, and so many ones were passed.
pub record IsWalk (Before : List Found → Type 0) (times indexes : List ℕ) (cells : List Bool)
    (capture : ℕ) (clock : Clock) (from passed : ℕ) (old new : Knowledge) : Type 0 where
  pub found : List Found
  pub before : Before found
  pub noted : AppendsReadings old new (readings_in capture clock times indexes cells found)
  pub shape : SameShape old new
  pub few : new.notes ≤ old.notes + MOST_CELLS * from
  pub within : from ≤ length cells
  pub passed_are : passed ≡ ones (take from cells)

-- what was found before a place by the strict rule: with what will be found from there on it is all
abbrev pub ReadBefore : (List Bool → ℕ → Type 0) → (List Bool → ℕ → List ℕ → Type 0) → List Bool
    → (from : ℕ) → List Found → Type 0
ReadBefore header sector cells from found = (rest : List Found)
    → AreReadings header sector cells from rest → AreReadings header sector cells 0 (found ++ rest)

-- and as controllers read: the readings of all headers before the place, with all their data
pub record HeadersBefore (header : List Bool → ℕ → Type 0)
    (data_stand : List Bool → ℕ → List ℕ → Type 0) (cells : List Bool) (from : ℕ)
    (found : List Found) : Type 0 where
  pub headers : List (ℕ × HeaderData)
  pub before : (rest : List (ℕ × HeaderData))
      → AreFound (HasHeaderData header data_stand cells) from rest
      → AreFound (HasHeaderData header data_stand cells) 0 (headers ++ rest)
  pub each : (place sector : ℕ) → place < from → header (drop place cells) sector
      → («data» : List (ℕ × List ℕ)) × Contains headers (place, (sector, «data»))
  pub are : found ≡ flat_map readings_of headers

-- The others that were found before a place, and all of them.
pub record OthersBefore (named : List Bool → HeaderName → Type 0) (header : List Bool → ℕ → Type 0)
    (whole_data : List Bool → HeaderName → Type 0) (cells : List Bool) (from : ℕ)
    (others : List (ℕ × OtherFound)) : Type 0 where
  pub rise : IsStrictlyIncreasing (map (λ o. o.0) others)
  pub each : (place : ℕ) (x : OtherFound)
      → Contains others (place, x)
      ↔ ((place < from) × IsOtherAt named header whole_data cells place x)
  pub told : (place : ℕ) (name : HeaderName) → place < from
      → IsOther named header (drop place cells) name
      → (whole : Bool) × Contains others (place, (name, whole))

-- The walk as controllers read has come to a place: all headers before it are noted, those of
-- sectors with their data, and others.
pub record IsControllerWalk (named : List Bool → HeaderName → Type 0)
    (header : List Bool → ℕ → Type 0) (data_stand : List Bool → ℕ → List ℕ → Type 0)
    (whole_data : List Bool → HeaderName → Type 0)
    (times indexes : List ℕ) (cells : List Bool) (capture : ℕ) (clock : Clock) (from passed : ℕ)
    (old new : Knowledge) (others others' : OthersKnown) : Type 0 where
  pub walk : IsWalk (HeadersBefore header data_stand cells from) times indexes cells capture clock
      from passed old new
  pub found : List (ℕ × OtherFound)
  pub before : OthersBefore named header whole_data cells from found
  pub noted : AppendsOthers others others'
      (map (noted_other capture clock times indexes cells) found)
  pub few : others'.notes ≤ others.notes + from

-- all that can be read as controllers read, and all others, were noted
pub record GathersOthers (named : List Bool → HeaderName → Type 0) (header : List Bool → ℕ → Type 0)
    (whole_data : List Bool → HeaderName → Type 0)
    (times indexes : List ℕ) (cells : List Bool) (capture : ℕ) (clock : Clock)
    (others others' : OthersKnown) : Type 0 where
  pub found : List (ℕ × OtherFound)
  pub all : AreOthersIn named header whole_data cells found
  pub noted : AppendsOthers others others'
      (map (noted_other capture clock times indexes cells) found)
  pub few : others'.notes ≤ others.notes + MOST_READINGS

-- the readings of a header as controllers read: a good one for each of its data,
-- and a bad one where it has none
abbrev pub header_readings : (sector : ℕ) → Place → List (ℕ × List ℕ) → List NotedReading
header_readings sector place [] = bad_reading sector place ∷ []
header_readings sector place (first ∷ more) =
    map (λ d. good_reading sector place d.1) (first ∷ more)

-- All data of a header that stand from a place on were noted as good readings, no more than
-- there are places up to a limit.
pub record NotesData (data_stand : ℕ → List ℕ → Type 0) (from sector : ℕ) (place : Place)
    (limit : ℕ) (old new : Knowledge) : Type 0 where
  pub found : List (ℕ × List ℕ)
  pub all : AreFound data_stand from found
  pub noted : AppendsReadings old new (map (λ d. good_reading sector place d.1) found)
  pub shape : SameShape old new
  pub few : new.notes + from ≤ old.notes + limit

-- what is read of a header was noted
pub record NotesHeader (data_stand : ℕ → List ℕ → Type 0) (sector : ℕ) (place : Place) (limit : ℕ)
    (old new : Knowledge) : Type 0 where
  pub found : List (ℕ × List ℕ)
  pub all : AreFound data_stand 0 found
  pub noted : AppendsReadings old new (header_readings sector place found)
  pub shape : SameShape old new
  pub few : new.notes ≤ old.notes + limit

-- The search for a header's data has come to a place: those before it are noted.
pub record IsDataWalk (data_stand : ℕ → List ℕ → Type 0) (from start sector : ℕ) (place : Place)
    (limit : ℕ) (old new : Knowledge) : Type 0 where
  pub found : List (ℕ × List ℕ)
  pub before : (rest : List (ℕ × List ℕ)) → AreFound data_stand start rest
      → AreFound data_stand from (found ++ rest)
  pub noted : AppendsReadings old new (map (λ d. good_reading sector place d.1) found)
  pub shape : SameShape old new
  pub few : new.notes + from ≤ old.notes + start
  pub within : start ≤ limit

-- what was found at a place is noted: a sector's header with its data, or an other
abbrev pub NotesFound : (data_stand : ℕ → List ℕ → Type 0) → (whole_data : HeaderName → Type 0)
    → FoundHeader → Place → (limit : ℕ) → (old new : Knowledge)
    → (others others' : OthersKnown) → Type 0
NotesFound data_stand whole_data (Sector sector) place limit old new others others' =
    NotesHeader data_stand sector place limit old new × (others' ≡ others)
NotesFound data_stand whole_data (Other name) place limit old new others others' =
    (new ≡ old)
    × ((whole : Bool) × (IsTrue whole ↔ whole_data name)
    × AppendsOthers others others' (record { name = name; whole = whole; place = place } ∷ []))
    × (others'.notes ≡ others.notes + 1)

-- All readings of a track with these transitions and index times by a rule, in the cells that the
-- clock recovers, were noted in its book, and all others.
pub record HasNoted (rule : Rule) (clock : Clock) (format : Format) (track : TrackId)
    (times indexes : List ℕ) (capture : ℕ) (old new : Knowledge)
    (before after : OthersKnown) : Type 0 where
  pub readings : List NotedReading
  pub are : AreReadingsBy rule clock format track times indexes capture readings
  pub noted : AppendsReadings old new readings
  pub shape : SameShape old new
  pub few : new.notes ≤ old.notes + MOST_READINGS
  pub others : List NotedOther
  pub others_are : AreOthersOfClock rule clock format track times indexes capture others
  pub others_noted : AppendsOthers before after others
  pub few_others : after.notes ≤ before.notes + MOST_READINGS

-- The same by these clocks, one after the other.
pub record HasNotedBy (rule : Rule) (clocks : Clocks) (format : Format) (track : TrackId)
    (times indexes : List ℕ) (capture : ℕ) (old new : Knowledge)
    (before after : OthersKnown) : Type 0 where
  pub readings : List NotedReading
  pub are : AreReadingsOf rule clocks format track times indexes capture readings
  pub noted : AppendsReadings old new readings
  pub shape : SameShape old new
  pub few : new.notes ≤ old.notes + MOST_READINGS * count_of_clocks clocks
  pub others : List NotedOther
  pub others_are : AreOthersOf rule clocks format track times indexes capture others
  pub others_noted : AppendsOthers before after others
  pub few_others : after.notes ≤ before.notes + MOST_READINGS * count_of_clocks clocks

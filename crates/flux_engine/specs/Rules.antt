-- What can be read in the cells of a track, by the strict rule or as controllers read.
use Rattle.std.specs.Prelude.{◌≡◌, ◌↔◌, ℕ, Bool, Contains, IsTrue, List, [], drop, flat_map, length}
use Rattle.disk_recordings.specs.Members.{as_controllers_read, data_at, header_at, named_at}
use Rattle.disk_recordings.specs.Members.{sector_at, whole_data_of}
use Rattle.flux_base.specs.declared.header_name.HeaderName.{HeaderName}
use Rattle.flux_base.specs.declared.track.TrackId.{TrackId}
use Rattle.frame_law.specs.Controller.{AreAllAt, HasHeaderData, HeaderData, SectorStandsBy}
use Rattle.frame_law.specs.Controller.{readings_of}
use Rattle.frame_law.specs.Others.{IsOther}
use Rattle.frame_law.specs.Readings.{AreReadings}
use Rattle.frame_law.specs.declared.reading.Reading.TheVariants.{Good as GoodFrame}
use Rattle.sector_images.specs.Formats.{row}
use Rattle.sector_images.specs.declared.format.Format.{Format}
use Rattle.flux_engine.specs.Tracks.{Found}
use Rattle.flux_engine.specs.declared.plan.Rule.{Rule}
use Rattle.flux_engine.specs.declared.plan.Rule.TheVariants.{Strict, Controller}

-- All that can be read as controllers read: the readings of each header of the track's sectors with
-- all its data, by rising place. (That a header has a list of all its data is not taken for
-- granted: each is among them.)
pub record AreReadByControllers (header : List Bool → ℕ → Type 0)
    (data_stand : List Bool → ℕ → List ℕ → Type 0) (cells : List Bool)
    (found : List Found) : Type 0 where
  pub headers : List (ℕ × HeaderData)
  pub all : AreAllAt (HasHeaderData header data_stand cells) 0 headers
  pub each : (place sector : ℕ) → header (drop place cells) sector
      → («data» : List (ℕ × List ℕ)) × Contains headers (place, (sector, «data»))
  pub are : found ≡ flat_map readings_of headers

-- all that can be read on a track by a rule
abbrev pub AreAllBy : Rule → Format → TrackId → List Bool → List Found → Type 0
AreAllBy Strict format track cells found =
    AreReadings (header_at format track) (sector_at format track) cells 0 found
AreAllBy Controller format track cells found =
    AreReadByControllers (header_at (as_controllers_read format) track)
    (data_at (as_controllers_read format)) cells found

-- no header is one of a sector
abbrev pub no_header : List Bool → ℕ → Type 0
no_header cells sector = ⊥

-- an other as it is found: its name, and whether whole data stand after it
abbrev pub OtherFound : Type 0
OtherFound = HeaderName × Bool

module _ (named : List Bool → HeaderName → Type 0) (header : List Bool → ℕ → Type 0)
    (whole_data : List Bool → HeaderName → Type 0) (cells : List Bool) where
  -- such an other stands at a place of the cells
  abbrev pub IsOtherAt : (place : ℕ) → OtherFound → Type 0
  IsOtherAt place other = IsOther named header (drop place cells) other.0
      × (IsTrue other.1 ↔ whole_data (drop place cells) other.0)

  -- All others that stand in the cells, by rising place. (That it is told of each whether it has
  -- whole data is not taken for granted.)
  pub record AreOthersIn (others : List (ℕ × OtherFound)) : Type 0 where
    pub all : AreAllAt IsOtherAt 0 others
    pub each : (place : ℕ) (name : HeaderName) → IsOther named header (drop place cells) name
        → (whole : Bool) × Contains others (place, (name, whole))

-- all headers that stand in the cells, read as controllers read, where none of
-- them is one of a track's sectors
abbrev pub AreNamesIn : Format → List Bool → List (ℕ × OtherFound) → Type 0
AreNamesIn format cells others = AreOthersIn (named_at (as_controllers_read format)) no_header
    (whole_data_of (as_controllers_read format)) cells others

-- all others that stand on a track by a rule; the strict rule knows none
abbrev pub AreOthersBy : Rule → Format → TrackId → List Bool → List (ℕ × OtherFound) → Type 0
AreOthersBy Strict format track cells others = others ≡ []
AreOthersBy Controller format track cells others =
    AreOthersIn (named_at (as_controllers_read format))
    (header_at (as_controllers_read format) track) (whole_data_of (as_controllers_read format))
    cells others

-- a sector stands at the front of the cells by a rule, with these bytes
abbrev pub StandsBy : Rule → Format → TrackId → List Bool → ℕ → List ℕ → Type 0
StandsBy Strict format track cells sector bytes = sector_at format track cells sector bytes
StandsBy Controller format track cells sector bytes =
    SectorStandsBy (header_at (as_controllers_read format) track)
    (data_at (as_controllers_read format)) cells sector bytes

-- By either rule: all that can be read on a track is one list, which has each sector that stands,
-- and no other as good; such a sector has the format's bytes in number; what stands by the strict
-- rule stands by either; and all others are one list, and so are all headers of any name.
pub record RulesAreRead : Type 0 where
  pub one : (rule : Rule) (format : Format) (track : TrackId) (cells : List Bool)
      (found others : List Found)
      → AreAllBy rule format track cells found → AreAllBy rule format track cells others
      → found ≡ others
  pub good : (rule : Rule) (format : Format) (track : TrackId) (cells : List Bool)
      (found : List Found)
      → AreAllBy rule format track cells found
      → (place sector : ℕ) (bytes : List ℕ)
      → Contains found (place, GoodFrame sector, bytes)
      ↔ StandsBy rule format track (drop place cells) sector bytes
  pub size : (rule : Rule) (format : Format) (track : TrackId) (cells : List Bool) (sector : ℕ)
      (bytes : List ℕ)
      → StandsBy rule format track cells sector bytes → length bytes ≡ (row format).sector_size
  pub strict : (rule : Rule) (format : Format) (track : TrackId) (cells : List Bool) (sector : ℕ)
      (bytes : List ℕ)
      → sector_at format track cells sector bytes → StandsBy rule format track cells sector bytes
  pub one_others : (rule : Rule) (format : Format) (track : TrackId) (cells : List Bool)
      (others more : List (ℕ × OtherFound))
      → AreOthersBy rule format track cells others → AreOthersBy rule format track cells more
      → others ≡ more
  pub one_names : (format : Format) (cells : List Bool) (names more : List (ℕ × OtherFound))
      → AreNamesIn format cells names → AreNamesIn format cells more → names ≡ more

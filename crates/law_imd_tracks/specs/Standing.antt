-- What stands as a sector in a stream's cells has a name among the headers that are read of them,
-- as ImageDisk's records are made of these.
use Rattle.std.specs.Prelude.{◌≡◌, ℕ, Contains, List, ◌∷◌, drop, Option, Some, None}
use Rattle.disk_recordings.specs.Members.{is_name_of}
use Rattle.flux_base.specs.declared.track.TrackId.{TrackId}
use Rattle.flux_engine.specs.Recordings.{cells_by}
use Rattle.flux_engine.specs.Rules.{StandsBy}
use Rattle.flux_engine.specs.declared.plan.Rule.TheVariants.{Controller}
use Rattle.ibm_disks.specs.Disks.{rate_of}
use Rattle.ibm_disks.specs.declared.rate.Rate.{Rate}
use Rattle.ibm_disks.specs.declared.rate.Rate.TheVariants.{Double, High, SingleAt360}
use Rattle.ibm_walks.specs.Headers.{address_of}
use Rattle.ibm_walks.specs.Walks.{AreNamesBy}
use Rattle.name_book.specs.Names.{NotedData}
use Rattle.name_book.specs.declared.name.NamedHeader.{NamedHeader}
use Rattle.name_book.specs.declared.name.SectorName.{SectorName}
use Rattle.sector_images.specs.declared.format.Format.{Format}
use Rattle.sector_images.specs.declared.format.Format.TheVariants.{Ibm3740, Ibm360, Ibm720, Ibm1440}
use Rattle.sector_images.specs.declared.format.Format.TheVariants.{C1581, Numbered}
use Rattle.turn_merge.specs.declared.clock.Clock.{Clock}

-- the rate of a format whose disks have one of IBM's two recordings
abbrev pub rate_in : Format → Option Rate
rate_in Ibm3740 = Some SingleAt360
rate_in Ibm360 = Some Double
rate_in Ibm720 = Some Double
rate_in Ibm1440 = Some High
rate_in C1581 = Some Double
rate_in (Numbered disk) = Some (rate_of disk)
rate_in _ = None

-- Headers have a name of a sector of a format's track, and data of that name are these bytes behind
-- the byte of a mark.
pub record HaveSector (format : Format) (track : TrackId) (sector : ℕ) (bytes : List ℕ)
    (headers : List NamedHeader) (noted : List NotedData) : Type 0 where
  pub name : SectorName
  pub is : is_name_of format track (address_of name) sector
  pub mark : ℕ
  pub header : (h : NamedHeader) × Contains headers h × (h.name ≡ name)
  pub held : Contains noted (record { name = name; held = mark ∷ bytes })

-- So it is, by either clock, with each sector that stands in a stream's cells as controllers read.
abbrev pub StandingSectorsAreNamed : Type 0
StandingSectorsAreNamed = (format : Format) (rate : Rate) → rate_in format ≡ Some rate
    → (clock : Clock) (track : TrackId) (dump : ℕ) (times indexes : List ℕ)
    (headers : List NamedHeader) (noted : List NotedData)
    → AreNamesBy clock rate dump times indexes headers noted
    → (place sector : ℕ) (bytes : List ℕ)
    → StandsBy Controller format track (drop place (cells_by clock format track times indexes))
    sector bytes
    → HaveSector format track sector bytes headers noted

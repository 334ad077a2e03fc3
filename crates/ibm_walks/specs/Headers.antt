-- What a header of an IBM disk says, and the whole data behind it with their mark, whatever sectors
-- the track should have: a header of any name, and data of the size that its code tells.
use Rattle.std.specs.Prelude.{◌≡◌, ◌≤◌, ◌↔◌, ℕ, ◌+◌, ◌-◌, Bool, IsTrue, List, ◌∷◌, drop, map}
use Rattle.std.specs.Prelude.{nat_eq, if◌then◌else◌, slice_index, Option, Some, None}
use Rattle.cell_bits.specs.Bytes.{data_byte}
use Rattle.disk_recordings.specs.Members.{data_at, named_at}
use Rattle.flux_base.specs.declared.header_name.HeaderName.{HeaderName}
use Rattle.flux_base.specs.declared.header_name.HeaderName.TheVariants.{Address}
use Rattle.flux_engine.specs.Tracks.{time_of_place}
use Rattle.frame_law.specs.Controller.{AreFound}
use Rattle.frame_law.specs.Frames.{IsSyncInReach}
use Rattle.ibm_disks.specs.GapPlans.{density_of}
use Rattle.ibm_disks.specs.declared.rate.Density.{Density}
use Rattle.ibm_disks.specs.declared.rate.Density.TheVariants.{Single as SingleDensity}
use Rattle.ibm_disks.specs.declared.rate.Density.TheVariants.{Double as DoubleDensity}
use Rattle.ibm_disks.specs.declared.rate.Rate.{Rate}
use Rattle.ibm_disks.specs.declared.sector_size.SectorSize.{SectorSize}
use Rattle.ibm_disks.specs.declared.sector_size.SectorSize.TheVariants.{Bytes128, Bytes256}
use Rattle.ibm_disks.specs.declared.sector_size.SectorSize.TheVariants.{Bytes512, Bytes1024}
use Rattle.ibm_fm.specs.Sectors.{IsSync}
use Rattle.ibm_mfm.specs.Sectors.{FIRST_BYTE_PLACE}
use Rattle.ibm_mfm.specs.Syncs.{SyncAt}
use Rattle.index_turns.specs.Track.{turn_at}
use Rattle.name_book.specs.Names.{NotedData}
use Rattle.name_book.specs.declared.name.NamedHeader.{NamedHeader}
use Rattle.name_book.specs.declared.name.SectorName.{SectorName}
use Rattle.ibm_walks.specs.Rates.{format_with_one}

abbrev pub address_of : SectorName → HeaderName
address_of name = Address name.cylinder name.head name.number name.code

-- a header of any of these names stands at the front of the cells, by a rate
abbrev pub IsNamed : Rate → List Bool → HeaderName → Type 0
IsNamed rate cells name = named_at (format_with_one rate Bytes128) cells name

-- the cells of a header: in single density a mark and six bytes, in double density three and seven
abbrev pub header_cells : Density → ℕ
header_cells SingleDensity = 112
header_cells DoubleDensity = 160

-- a sync with which data may begin
abbrev pub DataSyncAt : Density → List Bool → ℕ → Type 0
DataSyncAt SingleDensity cells place = IsSync cells place
DataSyncAt DoubleDensity cells place = SyncAt cells place

-- A data sync stands behind the header at the front of the cells, within reach of it and before the
-- next header.
pub record HasSync (rate : Rate) (cells : List Bool) : Type 0 where
  pub place : ℕ
  pub sync : IsSyncInReach (header_cells (density_of rate)) (DataSyncAt (density_of rate) cells)
      place
  pub nearest : (other : ℕ) (name : HeaderName) → header_cells (density_of rate) ≤ other
      → other ≤ place → IsNamed rate (drop other cells) name → ⊥

-- the byte of the mark of data whose sync stands at a place: FB, or F8 of deleted ones
abbrev pub mark_at : Density → List Bool → (place : ℕ) → ℕ
mark_at SingleDensity cells place = data_byte cells place
mark_at DoubleDensity cells place = data_byte cells (place + FIRST_BYTE_PLACE)

-- the size of a code, of those that a record of ImageDisk may have: 128 to 1024 bytes
abbrev pub size_of_code : (code : ℕ) → Option SectorSize
size_of_code code = if nat_eq code 0 then Some Bytes128 else (if nat_eq code 1 then Some Bytes256
    else (if nat_eq code 2 then Some Bytes512
    else (if nat_eq code 3 then Some Bytes1024 else None)))

-- Whole data stand at a place, as controllers read them: their mark and their bytes.
pub record HoldAt (data_stand : ℕ → List ℕ → Type 0) (density : Density) (cells : List Bool)
    (place : ℕ) (held : List ℕ) : Type 0 where
  pub bytes : List ℕ
  pub stand : data_stand place bytes
  pub are : held ≡ mark_at density cells place ∷ bytes

-- Those of the header at the front of the cells. Behind a header of another code none do.
abbrev pub HoldBy : Rate → Option SectorSize → List Bool → (place : ℕ) → (held : List ℕ) → Type 0
HoldBy rate None cells place held = ⊥
HoldBy rate (Some size) cells place held =
    HoldAt (data_at (format_with_one rate size) cells) (density_of rate) cells place held

-- how many ticks the last index moment lies back at a time, if one is at or before it
abbrev pub since_turn : List ℕ → (time turn : ℕ) → Option ℕ
since_turn indexes time turn =
    if nat_eq turn 0 then None else Some (time - slice_index indexes (turn - 1))

abbrev pub since_index : List ℕ → (time : ℕ) → Option ℕ
since_index indexes time = since_turn indexes time (turn_at indexes time)

-- the data of a header of a name, as they are found by their places
abbrev pub data_of : SectorName → List (ℕ × List ℕ) → List NotedData
data_of name held = map (λ h. record { name = name; held = h.1 }) held

-- a header as it is found, and its whole data in their order
abbrev pub FoundName : Type 0
FoundName = NamedHeader × List NotedData

-- A header stands at a place of the cells that were recovered by a rate of a dump's stream.
pub record IsNameAt (rate : Rate) (dump : ℕ) (times indexes : List ℕ) (cells : List Bool)
    (place : ℕ) (found : FoundName) : Type 0 where
  pub named : IsNamed rate (drop place cells) (address_of found.0.name)
  pub dump_is : found.0.dump ≡ dump
  pub time : found.0.time ≡ time_of_place times cells place
  pub since : found.0.since ≡ since_index indexes found.0.time
  pub opens : IsTrue found.0.opens ↔ HasSync rate (drop place cells)
  pub held : List (ℕ × List ℕ)
  pub all : AreFound (HoldBy rate (size_of_code found.0.name.code) (drop place cells)) 0 held
  pub are : found.1 ≡ data_of found.0.name held

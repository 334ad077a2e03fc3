-- What stands on the tracks of a disk by its numbers: names of one density stand whatever the
-- numbers are, and so do data of one size; and all disks of a rate have one clock.
use Rattle.std.proofs.Common.{◌≡◌, ◌≤◌, ◌+◌, ◌*◌, ◌∙◌, ℕ, Bool, List, ap, subst, sym}
use Rattle.disk_recordings.specs.Members.{data_at, is_name_of, named_at}
use Rattle.disk_recordings.specs.Recordings.{numbered_by}
use Rattle.disk_recordings.specs.contracts.meaning.DiskRecordingMeaning.TheImpl.{ghosts}
use Rattle.flux_base.specs.declared.header_name.HeaderName.{HeaderName}
use Rattle.flux_base.specs.declared.header_name.HeaderName.TheVariants.{Address}
use Rattle.flux_base.specs.declared.track.TrackId.{TrackId}
use Rattle.flux_engine.specs.Recordings.{cells_by, start_by}
use Rattle.ibm_disks.specs.Disks.{rate_of, track_of_disk}
use Rattle.ibm_disks.specs.GapPlans.{FillAt, density_of}
use Rattle.ibm_disks.specs.Numbers.{code_of}
use Rattle.ibm_disks.specs.declared.disk.IbmDisk.{IbmDisk}
use Rattle.ibm_disks.specs.declared.rate.Density.{Density}
use Rattle.ibm_disks.specs.declared.rate.Density.TheVariants.{Single as SingleDensity}
use Rattle.ibm_disks.specs.declared.rate.Density.TheVariants.{Double as DoubleDensity}
use Rattle.ibm_disks.specs.declared.rate.Rate.{Rate}
use Rattle.ibm_disks.specs.declared.sector_size.SectorSize.{SectorSize}
use Rattle.ibm_disks.specs.declared.sector_size.SectorSize.TheVariants.{Bytes128}
use Rattle.ibm_disks.specs.declared.track_numbers.TrackNumbers.{TrackNumbers}
use Rattle.ibm_disks.specs.lemmas.DiskLaws.{all_have_disks}
use Rattle.index_turns.specs.Track.{turn_length}
use Rattle.phase_loop.specs.Rows.{recovered}
use Rattle.phase_loop.specs.Start.{start_for}
use Rattle.sector_images.specs.Formats.{cell_of}
use Rattle.sector_images.specs.declared.format.Format.TheVariants.{Numbered}
use Rattle.track_rings.specs.Rings.{IsSectorNumber}
use Rattle.turn_merge.specs.declared.clock.Clock.{Clock}
use Rattle.dump_numbers.specs.Rates.{disk_with_one, format_with_one}
use Rattle.law_numbered_dumps.specs.lemmas.OneSector.{its_bytes, its_rate, its_size}

-- by one density
abbrev NamedBy : Density → TrackNumbers → List Bool → HeaderName → Type 0
NamedBy density t cells name = ghosts.named_at (numbered_by density t) cells name

abbrev DataBy : Density → TrackNumbers → List Bool → ℕ → List ℕ → Type 0
DataBy density t cells place bytes = ghosts.data_at (numbered_by density t) cells place bytes

named_by : (density : Density) (a b : TrackNumbers) (cells : List Bool) (name : HeaderName)
    → NamedBy density a cells name → NamedBy density b cells name
named_by SingleDensity a b cells name is = is
named_by DoubleDensity a b cells name is = is

data_by : (density : Density) (a b : TrackNumbers) (cells : List Bool) → a.size ≡ b.size
    → (place : ℕ) (bytes : List ℕ) → DataBy density a cells place bytes
    → DataBy density b cells place bytes
data_by SingleDensity a b cells same place bytes is =
    subst (λ (s : SectorSize). DataBy SingleDensity (record b { size = s }) cells place bytes) same
    is
data_by DoubleDensity a b cells same place bytes is =
    subst (λ (s : SectorSize). DataBy DoubleDensity (record b { size = s }) cells place bytes) same
    is

-- a name of a sector of a track
abbrev pub IsNamed : TrackNumbers → TrackId → HeaderName → ℕ → Type 0
IsNamed t track name sector =
    (name ≡ Address track.cylinder track.head sector (code_of t.size))
    × IsSectorNumber t.first_sector t.sectors sector

name_by : (density : Density) (t : TrackNumbers) (track : TrackId) (name : HeaderName) (sector : ℕ)
    → ghosts.is_name_of (numbered_by density t) track name sector → IsNamed t track name sector
name_by SingleDensity t track name sector is = is
name_by DoubleDensity t track name sector is = is

by_name : (density : Density) (t : TrackNumbers) (track : TrackId) (name : HeaderName) (sector : ℕ)
    → IsNamed t track name sector → ghosts.is_name_of (numbered_by density t) track name sector
by_name SingleDensity t track name sector is = is
by_name DoubleDensity t track name sector is = is

few_by : (density : Density) (t : TrackNumbers) → FillAt density t
    → t.first_sector + t.sectors ≤ 256
few_by SingleDensity t fills = fills.few
few_by DoubleDensity t fills = fills.few

some_by : (density : Density) (t : TrackNumbers) → FillAt density t → 1 ≤ t.sectors
some_by SingleDensity t fills = fills.some
some_by DoubleDensity t fills = fills.some

-- of a disk
module _ (disk : IbmDisk) where
  abbrev track : TrackNumbers
  track = track_of_disk disk

  abbrev rate : Rate
  rate = rate_of disk

  pub few_sectors : track.first_sector + track.sectors ≤ 256
  few_sectors = few_by (density_of rate) track (all_have_disks disk).fills.0

  pub some_sectors : 1 ≤ track.sectors
  some_sectors = some_by (density_of rate) track (all_have_disks disk).fills.0

  -- a name of one of its sectors
  pub name_is : (id : TrackId) (name : HeaderName) (sector : ℕ)
      → is_name_of (Numbered disk) id name sector → IsNamed track id name sector
  name_is id name sector is = name_by (density_of rate) track id name sector is

  pub is_name : (id : TrackId) (name : HeaderName) (sector : ℕ) → IsNamed track id name sector
      → is_name_of (Numbered disk) id name sector
  is_name id name sector is = by_name (density_of rate) track id name sector is

  module _ (size : SectorSize) where
    abbrev one : TrackNumbers
    one = track_of_disk (disk_with_one rate size)

    abbrev its_density : Density
    its_density = density_of (rate_of (disk_with_one rate size))

    same_density : density_of rate ≡ its_density
    same_density = ap density_of (sym (its_rate rate size))

    -- names are those of the disk with one sector
    pub named_to : (cells : List Bool) (name : HeaderName) → named_at (Numbered disk) cells name
        → named_at (format_with_one rate size) cells name
    named_to cells name is =
        subst (λ (d : Density). NamedBy d one cells name) same_density
        (named_by (density_of rate) track one cells name is)

    pub named_from : (cells : List Bool) (name : HeaderName)
        → named_at (format_with_one rate size) cells name → named_at (Numbered disk) cells name
    named_from cells name is =
        named_by (density_of rate) one track cells name
        (subst (λ (d : Density). NamedBy d one cells name) (sym same_density) is)

  -- and so are its data
  pub data_to : (cells : List Bool) (place : ℕ) (bytes : List ℕ)
      → data_at (Numbered disk) cells place bytes
      → data_at (format_with_one rate track.size) cells place bytes
  data_to cells place bytes is =
      subst (λ (d : Density). DataBy d (one track.size) cells place bytes) (same_density track.size)
      (data_by (density_of rate) track (one track.size) cells (sym (its_size rate track.size)) place
      bytes is)

  pub data_from : (cells : List Bool) (place : ℕ) (bytes : List ℕ)
      → data_at (format_with_one rate track.size) cells place bytes
      → data_at (Numbered disk) cells place bytes
  data_from cells place bytes is =
      data_by (density_of rate) (one track.size) track cells (its_size rate track.size) place bytes
      (subst (λ (d : Density). DataBy d (one track.size) cells place bytes)
      (sym (same_density track.size)) is)

  -- and its cells, by either clock
  pub cells_are : (clock : Clock) (id : TrackId) (times indexes : List ℕ)
      → cells_by clock (format_with_one rate Bytes128) (record { cylinder = 0; head = 0 }) times
      indexes
      ≡ cells_by clock (Numbered disk) id times indexes
  cells_are clock id times indexes =
      ap
      (λ (r : Rate).
      recovered (start_by clock (start_for (cell_of r) (turn_length indexes 1)
      (16 * (one Bytes128).bytes))) times) (its_rate rate Bytes128)
      ∙ ap
      (λ (bytes : ℕ).
      recovered (start_by clock (start_for (cell_of rate) (turn_length indexes 1) (16 * bytes)))
      times) (its_bytes rate Bytes128 ∙ sym (all_have_disks disk).fills.1)

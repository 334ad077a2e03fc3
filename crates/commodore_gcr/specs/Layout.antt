-- The rows of a track of Commodore's disks: its sectors one after another, with no
-- gap of its own where it begins.
use Rattle.std.specs.Prelude.{ℕ, ◌+◌, ◌-◌, ◌*◌, ◌/◌, Bool, true, false, List, [], ◌∷◌, replicate}
use Rattle.flux_base.specs.declared.track.TrackId.{TrackId}
use Rattle.disk_zones.specs.declared.zones.Zone.{Zone}
use Rattle.track_rings.specs.Rows.{Rows, ring_of as ring_of_rows}
use Rattle.commodore_gcr.specs.declared.drive.CommodoreDrive.{CommodoreDrive}
use Rattle.commodore_gcr.specs.declared.layout.Row.{Row}
use Rattle.commodore_gcr.specs.declared.layout.Row.TheVariants.{SyncLead, SyncOnes, HeaderBlock}
use Rattle.commodore_gcr.specs.declared.layout.Row.TheVariants.{HeaderGap, DataBytes, DataFill}
use Rattle.commodore_gcr.specs.declared.layout.Row.TheVariants.{ZoneGap}
use Rattle.commodore_gcr.specs.declared.recording.CommodoreGcr.{CommodoreGcr}
use Rattle.commodore_gcr.specs.Coding.{gcr_bytes, raw_bytes}
use Rattle.commodore_gcr.specs.Sectors.{DATA_FILL, SECTOR_SIZE, data_bytes, header_block}
use Rattle.commodore_gcr.specs.Zones.{sectors_of, zone_of}

-- A sector: a sync mark of 40 ones, header block, gap, sync mark, data block, and the zone's
-- gap. Its frame begins with the last ten ones of the first sync mark, and ends before the two
-- bytes that fill the data block up.
abbrev pub rows : Rows Row
rows = record {
  lead_in = [];
  before = SyncLead ∷ [];
  frame = SyncOnes ∷ HeaderBlock ∷ HeaderGap ∷ SyncLead ∷ SyncOnes ∷ DataBytes ∷ [];
  after = DataFill ∷ ZoneGap ∷ [];
  lead_out = [];
}

-- bytes of a gap
abbrev pub gap_cells : ℕ → List Bool
gap_cells count = raw_bytes (replicate count 0x55)

-- the cells of a sector's rows but for those of the zone's gap
abbrev pub SECTOR_CELLS : ℕ
SECTOR_CELLS = 2832

-- the bytes of the gap after each sector: the sectors of a track share its ring evenly, so that
-- they are 12, 21, 16 and 13, or 43, 42, 46 and 53
abbrev pub gap_bytes : Zone → ℕ
gap_bytes zone = (zone.ring_cells / zone.sectors - SECTOR_CELLS) / 8

-- the cells of a row of this disk, for this sector with these bytes
abbrev pub row_cells : CommodoreGcr → TrackId → Bool → ℕ → List ℕ → Row → List Bool
row_cells disk track before sector bytes SyncLead = replicate 30 true
row_cells disk track before sector bytes SyncOnes = replicate 10 true
row_cells disk track before sector bytes HeaderBlock =
    gcr_bytes (header_block disk.drive disk.id1 disk.id2 track sector)
row_cells disk track before sector bytes HeaderGap = gap_cells 9
row_cells disk track before sector bytes DataBytes = gcr_bytes (data_bytes bytes)
row_cells disk track before sector bytes DataFill = gcr_bytes DATA_FILL
row_cells disk track before sector bytes ZoneGap = gap_cells (gap_bytes (zone_of disk.drive track))

-- how many they are: one for each one, 10 for each byte of a block, and 8 for each byte of a gap
abbrev pub row_size : Zone → ℕ → Row → ℕ
row_size zone count SyncLead = 30
row_size zone count SyncOnes = 10
row_size zone count HeaderBlock = 10 * 8
row_size zone count HeaderGap = 8 * 9
row_size zone count DataBytes = 10 * (count + 2)
row_size zone count DataFill = 10 * 2
row_size zone count ZoneGap = 8 * gap_bytes zone

-- the ring
abbrev pub ring_of : CommodoreGcr → TrackId → List ℕ → List Bool
ring_of disk track bytes =
    ring_of_rows false (row_cells disk track) 0 (sectors_of disk.drive track) SECTOR_SIZE bytes rows

-- the cells of a ring
abbrev pub ring_cells_of : CommodoreDrive → TrackId → ℕ
ring_cells_of drive track = (zone_of drive track).ring_cells

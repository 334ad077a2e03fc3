-- The rows of a track of the Macintosh's disks: its sectors one after another, and then
-- self-syncs to the ring's end.
use Rattle.std.specs.Prelude.{ℕ, ◌-◌, ◌*◌, ◌/◌, Bool, false, List, [], ◌∷◌, map}
use Rattle.flux_base.specs.declared.track.TrackId.{TrackId}
use Rattle.cell_bits.specs.Word.{word_cells}
use Rattle.disk_zones.specs.declared.zones.Zone.{Zone}
use Rattle.track_rings.specs.Rows.{Rows, ring_of as ring_of_rows}
use Rattle.apple_nibbles.specs.Marks.{ADDRESS_MARK, DATA_MARK, MARK_CELLS, self_syncs}
use Rattle.apple_nibbles.specs.Nibbles.{bytes_cells, nibble}
use Rattle.macintosh_gcr.specs.Coding.{NO_SUMS, data_values, with_tags}
use Rattle.macintosh_gcr.specs.Sectors.{SECTOR_SIZE, header_values, sectors_of, zone_of}
use Rattle.macintosh_gcr.specs.declared.layout.Mark.{Mark}
use Rattle.macintosh_gcr.specs.declared.layout.Mark.TheVariants.{AddressField, DataField, Epilogue}
use Rattle.macintosh_gcr.specs.declared.layout.Row.{Row}
use Rattle.macintosh_gcr.specs.declared.layout.Row.TheVariants.{SelfSyncs, Mark as AMark, Header}
use Rattle.macintosh_gcr.specs.declared.layout.Row.TheVariants.{Content, ZoneGap}
use Rattle.macintosh_gcr.specs.declared.recording.MacintoshGcr.{MacintoshGcr}
use Rattle.macintosh_gcr.specs.declared.recording.MacintoshGcr.TheVariants.{SingleSided}
use Rattle.macintosh_gcr.specs.declared.recording.MacintoshGcr.TheVariants.{DoubleSided}

-- DE AA FF, which closes each field and is not looked at
abbrev pub EPILOGUE : ℕ
EPILOGUE = 0xDEAAFF

-- the format that is written
abbrev pub format_of : MacintoshGcr → ℕ
format_of SingleSided = 0x02
format_of DoubleSided = 0x22

-- the marks by their cells
abbrev pub word_of : Mark → ℕ
word_of AddressField = ADDRESS_MARK
word_of DataField = DATA_MARK
word_of Epilogue = EPILOGUE

-- A sector: self-syncs, header, gap and data. Its frame goes from the
-- header's mark to the data's end.
abbrev pub rows : Rows Row
rows = record {
  lead_in = [];
  before = SelfSyncs 16 ∷ [];
  frame =
      AMark AddressField ∷ Header ∷ AMark Epilogue ∷ SelfSyncs 6 ∷ AMark DataField ∷ Content ∷ [];
  after = AMark Epilogue ∷ [];
  lead_out = ZoneGap ∷ [];
}

-- the cells from one sector to the next
abbrev pub SECTOR_CELLS : ℕ
SECTOR_CELLS = 5988

-- the self-syncs after a track's last sector, which fill the ring
abbrev pub gap_syncs : Zone → ℕ
gap_syncs zone = (zone.ring_cells - SECTOR_CELLS * zone.sectors) / 10

-- nibbles of values, by their cells
abbrev pub nibble_cells : List ℕ → List Bool
nibble_cells values = bytes_cells (map nibble values)

-- the values of a data field: the sector's number, its bytes and their check values
abbrev pub field_values : ℕ → List ℕ → List ℕ
field_values sector bytes = sector ∷ data_values 0 NO_SUMS (with_tags bytes)

-- the cells of a row of this disk, for this sector with these bytes
abbrev pub row_cells : MacintoshGcr → TrackId → Bool → ℕ → List ℕ → Row → List Bool
row_cells disk track before sector bytes (SelfSyncs count) = self_syncs count
row_cells disk track before sector bytes (AMark mark) = word_cells MARK_CELLS (word_of mark)
row_cells disk track before sector bytes Header =
    nibble_cells (header_values track sector (format_of disk))
row_cells disk track before sector bytes Content = nibble_cells (field_values sector bytes)
row_cells disk track before sector bytes ZoneGap = self_syncs (gap_syncs (zone_of track))

-- how many they are: as many nibbles for any bytes
abbrev pub row_size : Zone → ℕ → Row → ℕ
row_size zone bytes (SelfSyncs count) = 10 * count
row_size zone bytes (AMark mark) = 24
row_size zone bytes Header = 8 * 5
row_size zone bytes Content = 8 * 704
row_size zone bytes ZoneGap = 10 * gap_syncs zone

-- the ring
abbrev pub ring_of : MacintoshGcr → TrackId → List ℕ → List Bool
ring_of disk track bytes =
    ring_of_rows false (row_cells disk track) 0 (sectors_of track) SECTOR_SIZE bytes rows

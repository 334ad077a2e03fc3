-- The rows of a track of Amiga disks (Amiga trackdisk), in MFM.
use Rattle.std.specs.Prelude.{ℕ, ◌+◌, ◌-◌, ◌*◌, ◌/◌, Bool, true, List, [], ◌∷◌, ◌++◌, replicate}
use Rattle.std.specs.Int.{from_be_bytes, w32}
use Rattle.std.specs.List.{flat_map}
use Rattle.flux_base.specs.declared.track.TrackId.{TrackId}
use Rattle.check_values.specs.Sums.{data_xor}
use Rattle.track_rings.specs.Rows.{Rows, ring_of as ring_of_rows}
use Rattle.mfm_coding.specs.declared.symbol.Symbol.{Symbol}
use Rattle.mfm_coding.specs.declared.symbol.Symbol.TheVariants.{Data, SyncMark}
use Rattle.mfm_coding.specs.Coding.{bytes_as_data, coded}
use Rattle.amiga_mfm.specs.declared.layout.Disk.{Disk}
use Rattle.amiga_mfm.specs.declared.layout.Row.{Row}
use Rattle.amiga_mfm.specs.declared.layout.Row.TheVariants.{Run, Header, Content, TrackGap}
use Rattle.amiga_mfm.specs.Longs.{HALF_CELLS, half_bytes, halves, longs_of}
use Rattle.amiga_mfm.specs.Sectors.{FORMAT_BYTE, SECTOR_SIZE, track_number}

-- a sector: two bytes of zeros and its frame; and after the last
-- sector the gap that fills the track
abbrev pub rows : Rows Row
rows = record {
  lead_in = [];
  before = Run 2 (Data 0x00) ∷ [];
  frame = Run 2 SyncMark ∷ Header ∷ Content ∷ [];
  after = [];
  lead_out = TrackGap ∷ [];
}

-- halves of longs, each as the two bytes in its data cells
abbrev pub halves_symbols : List ℕ → List Symbol
halves_symbols some = bytes_as_data (flat_map half_bytes some)

-- the info: FF, track, sector, and the number of sectors from it to the gap
abbrev pub info_of : Disk → TrackId → ℕ → ℕ
info_of disk track sector =
    from_be_bytes w32 (FORMAT_BYTE ∷ track_number track ∷ sector ∷ (disk.sectors - sector) ∷ [])

-- the label: four longs of zeros
abbrev pub label : List ℕ
label = replicate 4 0

-- the check value of info and label, and that of the data
abbrev pub check_of_header : ℕ → ℕ
check_of_header info = data_xor (halves (info ∷ []) ++ halves label)

abbrev pub check_of_data : List ℕ → ℕ
check_of_data longs = data_xor (halves longs)

-- the halves of info, label and their check value, and those of the data after theirs
abbrev pub header_halves : ℕ → List ℕ
header_halves info = (halves (info ∷ []) ++ halves label) ++ halves (check_of_header info ∷ [])

abbrev pub content_halves : List ℕ → List ℕ
content_halves longs = halves (check_of_data longs ∷ []) ++ halves longs

-- the bytes and marks of a row of the disk's track, for this sector with these bytes
abbrev pub row_symbols : Disk → TrackId → ℕ → List ℕ → Row → List Symbol
row_symbols disk track sector bytes (Run count symbol) = replicate count symbol
row_symbols disk track sector bytes Header =
    halves_symbols (header_halves (info_of disk track sector))
row_symbols disk track sector bytes Content = halves_symbols (content_halves (longs_of bytes))
row_symbols disk track sector bytes TrackGap = replicate disk.track_gap (Data 0x00)

-- its cells, after the last data bit before it
abbrev pub row_cells : Disk → TrackId → Bool → ℕ → List ℕ → Row → List Bool
row_cells disk track before sector bytes row =
    coded before (row_symbols disk track sector bytes row)

-- how many they are: 16 for each byte and each mark, and two halves for each long, of info, label
-- and check value, and of check value and data
abbrev pub row_size : Disk → ℕ → Row → ℕ
row_size disk count (Run symbols symbol) = 16 * symbols
row_size disk count Header = 2 * HALF_CELLS * 6
row_size disk count Content = 2 * HALF_CELLS * (1 + count / 4)
row_size disk count TrackGap = 16 * disk.track_gap

-- the ring
abbrev pub ring_of : Disk → TrackId → List ℕ → List Bool
ring_of disk track bytes =
    ring_of_rows true (row_cells disk track) 0 disk.sectors SECTOR_SIZE bytes rows

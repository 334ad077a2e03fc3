-- The cells of a track's rows, single density (IBM 3740, FM).
use Rattle.std.specs.Prelude.{ℕ, ◌+◌, ◌-◌, ◌*◌, Bool, List, [], ◌∷◌, ◌++◌, replicate, flat_map}
use Rattle.flux_base.specs.declared.track.TrackId.{TrackId}
use Rattle.cell_bits.specs.Bytes.{fm}
use Rattle.cell_bits.specs.Word.{word_cells}
use Rattle.track_rings.specs.Rows.{Rows}
use Rattle.ibm_disks.specs.Numbers.{FM_AROUND, code_of, fm_before, used}
use Rattle.ibm_disks.specs.declared.track_numbers.LeadIn.{LeadIn}
use Rattle.ibm_disks.specs.declared.track_numbers.LeadIn.TheVariants.{Indexed, Bare}
use Rattle.ibm_disks.specs.declared.track_numbers.TrackNumbers.{TrackNumbers}
use Rattle.ibm_fields.specs.Fields.{DATA_BYTE, ID_BYTE, high_first}
use Rattle.ibm_fm.specs.declared.layout.Mark.{Mark}
use Rattle.ibm_fm.specs.declared.layout.Mark.TheVariants.{Index, Id, Data}
use Rattle.ibm_fm.specs.declared.layout.Row.{Row}
use Rattle.ibm_fm.specs.declared.layout.Row.TheVariants.{Run, Mark as AMark, Address, Content}
use Rattle.ibm_fm.specs.declared.layout.Row.TheVariants.{SectorGap, TrackGap}
use Rattle.ibm_fm.specs.Sectors.{ID_MARK, DATA_MARK, INDEX_MARK, address_of, check_of}

-- before the first sector a gap, the index mark, and a gap; or a gap alone
abbrev pub lead_in_rows : LeadIn → List Row
lead_in_rows Indexed = Run 40 0xFF ∷ Run 6 0x00 ∷ AMark Index ∷ Run 26 0xFF ∷ []
lead_in_rows Bare = Run 16 0xFF ∷ []

-- a sector's header, gap and data, between six bytes of 00 and a gap; and after the last
-- sector the gap that fills the track
abbrev pub rows_of : TrackNumbers → Rows Row
rows_of numbers = record {
  lead_in = lead_in_rows numbers.lead_in;
  before = Run 6 0x00 ∷ [];
  frame = AMark Id ∷ Address ∷ Run 11 0xFF ∷ Run 6 0x00 ∷ AMark Data ∷ Content ∷ [];
  after = SectorGap ∷ [];
  lead_out = TrackGap ∷ [];
}

-- the bytes of that gap: what the sectors leave of the track
abbrev pub track_gap_of : TrackNumbers → ℕ
track_gap_of numbers = numbers.bytes - used (fm_before numbers.lead_in) FM_AROUND numbers

-- the marks by their cells
abbrev pub word_of : Mark → ℕ
word_of Index = INDEX_MARK
word_of Id = ID_MARK
word_of Data = DATA_MARK

-- bytes in FM
abbrev pub fm_bytes : List ℕ → List Bool
fm_bytes bytes = flat_map fm bytes

-- what stands after a mark: bytes, and the check value of the mark's byte and of them
abbrev pub field_cells : ℕ → List ℕ → List Bool
field_cells mark bytes = fm_bytes (bytes ++ high_first (check_of mark bytes))

-- the cells of a row of a track with these numbers, for this sector with these bytes
abbrev pub row_cells : TrackNumbers → TrackId → Bool → ℕ → List ℕ → Row → List Bool
row_cells numbers track before sector bytes (Run count byte) = fm_bytes (replicate count byte)
row_cells numbers track before sector bytes (AMark mark) = word_cells 16 (word_of mark)
row_cells numbers track before sector bytes Address =
    field_cells ID_BYTE (address_of (code_of numbers.size) track sector)
row_cells numbers track before sector bytes Content = field_cells DATA_BYTE bytes
row_cells numbers track before sector bytes SectorGap = fm_bytes (replicate numbers.sector_gap 0xFF)
row_cells numbers track before sector bytes TrackGap =
    fm_bytes (replicate (track_gap_of numbers) 0xFF)

-- how many they are: 16 for each byte and each mark
abbrev pub row_size : TrackNumbers → ℕ → Row → ℕ
row_size numbers count (Run bytes byte) = 16 * bytes
row_size numbers count (AMark mark) = 16
row_size numbers count Address = 16 * 6
row_size numbers count Content = 16 * (count + 2)
row_size numbers count SectorGap = 16 * numbers.sector_gap
row_size numbers count TrackGap = 16 * track_gap_of numbers

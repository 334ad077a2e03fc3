-- The rows of a track of the PC's disks (IBM System 34), from index to index.
use Rattle.std.specs.Prelude.{ℕ, ◌+◌, ◌-◌, ◌*◌, Bool, List, [], ◌∷◌, ◌++◌, replicate}
use Rattle.flux_base.specs.declared.track.TrackId.{TrackId}
use Rattle.track_rings.specs.Rows.{Rows}
use Rattle.ibm_disks.specs.Numbers.{code_of, mfm_around, mfm_before, mfm_zeros, used}
use Rattle.ibm_disks.specs.declared.track_numbers.LeadIn.{LeadIn}
use Rattle.ibm_disks.specs.declared.track_numbers.LeadIn.TheVariants.{Indexed, Bare}
use Rattle.ibm_disks.specs.declared.track_numbers.TrackNumbers.{TrackNumbers}
use Rattle.ibm_fields.specs.Fields.{DATA_BYTE, ID_BYTE, high_first}
use Rattle.mfm_coding.specs.declared.symbol.Symbol.{Symbol}
use Rattle.mfm_coding.specs.declared.symbol.Symbol.TheVariants.{Data, SyncMark, IndexMark}
use Rattle.mfm_coding.specs.Coding.{bytes_as_data, coded}
use Rattle.ibm_mfm.specs.declared.layout.Row.{Row}
use Rattle.ibm_mfm.specs.declared.layout.Row.TheVariants.{Run, HeaderZeros, Address, Content}
use Rattle.ibm_mfm.specs.declared.layout.Row.TheVariants.{SectorGap, TrackGap}
use Rattle.ibm_mfm.specs.Sectors.{address_of, check_of}

-- before the first sector a gap, the index mark, and a gap; or a gap alone
abbrev pub lead_in_rows : LeadIn → List Row
lead_in_rows Indexed = Run 80 (Data 0x4E) ∷ Run 12 (Data 0x00) ∷ Run 3 IndexMark ∷ Run 1 (Data 0xFC)
    ∷ Run 50 (Data 0x4E) ∷ []
lead_in_rows Bare = Run 10 (Data 0x4E) ∷ []

-- a sector's header, gap and data, after bytes of 00, and a gap; and after the last
-- sector the gap that fills the track
abbrev pub rows_of : TrackNumbers → Rows Row
rows_of numbers = record {
  lead_in = lead_in_rows numbers.lead_in;
  before = HeaderZeros ∷ [];
  frame = Run 3 SyncMark ∷ Address ∷ Run 22 (Data 0x4E) ∷ Run 12 (Data 0x00) ∷ Run 3 SyncMark
      ∷ Content ∷ [];
  after = SectorGap ∷ [];
  lead_out = TrackGap ∷ [];
}

-- the bytes of that gap: what the sectors leave of the track
abbrev pub track_gap_of : TrackNumbers → ℕ
track_gap_of numbers =
    numbers.bytes - used (mfm_before numbers.lead_in) (mfm_around numbers.lead_in) numbers

-- what stands after three marks: a first byte, other bytes, and the check value
abbrev pub field : ℕ → List ℕ → List Symbol
field first bytes = bytes_as_data (first ∷ (bytes ++ high_first (check_of first bytes)))

-- the bytes and marks of a row of a track with these numbers, for this sector with these bytes
abbrev pub row_symbols : TrackNumbers → TrackId → ℕ → List ℕ → Row → List Symbol
row_symbols numbers track sector bytes (Run count symbol) = replicate count symbol
row_symbols numbers track sector bytes HeaderZeros =
    replicate (mfm_zeros numbers.lead_in) (Data 0x00)
row_symbols numbers track sector bytes Address =
    field ID_BYTE (address_of (code_of numbers.size) track sector)
row_symbols numbers track sector bytes Content = field DATA_BYTE bytes
row_symbols numbers track sector bytes SectorGap = replicate numbers.sector_gap (Data 0x4E)
row_symbols numbers track sector bytes TrackGap = replicate (track_gap_of numbers) (Data 0x4E)

-- its cells, after a data bit
abbrev pub row_cells : TrackNumbers → TrackId → Bool → ℕ → List ℕ → Row → List Bool
row_cells numbers track before sector bytes row =
    coded before (row_symbols numbers track sector bytes row)

-- how many they are: 16 for each byte and each mark
abbrev pub row_size : TrackNumbers → ℕ → Row → ℕ
row_size numbers count (Run symbols symbol) = 16 * symbols
row_size numbers count HeaderZeros = 16 * mfm_zeros numbers.lead_in
row_size numbers count Address = 16 * 7
row_size numbers count Content = 16 * (count + 3)
row_size numbers count SectorGap = 16 * numbers.sector_gap
row_size numbers count TrackGap = 16 * track_gap_of numbers

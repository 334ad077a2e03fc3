-- The rows of a track of Apple's disks: 49994 cells, from index to index.
use Rattle.std.specs.Prelude.{ℕ, ◌*◌, Bool, false, List, [], ◌∷◌, flat_map}
use Rattle.flux_base.specs.declared.track.TrackId.{TrackId}
use Rattle.cell_bits.specs.Word.{word_cells}
use Rattle.track_rings.specs.Rows.{Rows, ring_of as ring_of_rows}
use Rattle.apple_gcr.specs.declared.layout.Mark.{Mark}
use Rattle.apple_gcr.specs.declared.layout.Mark.TheVariants.{AddressField, DataField, Epilogue}
use Rattle.apple_gcr.specs.declared.layout.Row.{Row}
use Rattle.apple_gcr.specs.declared.layout.Row.TheVariants.{SelfSyncs, Mark as AMark, Address}
use Rattle.apple_gcr.specs.declared.layout.Row.TheVariants.{Content}
use Rattle.apple_gcr.specs.FourAndFour.{four_and_four}
use Rattle.apple_gcr.specs.Sectors.{SECTORS, SECTOR_SIZE, check_of}
use Rattle.apple_gcr.specs.SixAndTwo.{data_nibbles}
use Rattle.apple_nibbles.specs.Marks.{ADDRESS_MARK, DATA_MARK, MARK_CELLS, self_syncs}
use Rattle.apple_nibbles.specs.Nibbles.{bytes_cells}

-- DE AA EB, which closes each field and is not looked at
abbrev pub EPILOGUE : ℕ
EPILOGUE = 0xDEAAEB

-- the volume that is written
abbrev pub VOLUME : ℕ
VOLUME = 254

-- the marks by their cells
abbrev pub word_of : Mark → ℕ
word_of AddressField = ADDRESS_MARK
word_of DataField = DATA_MARK
word_of Epilogue = EPILOGUE

-- before the first sector self-syncs; a sector's address field, gap, data field and gap; and
-- after the last sector nothing
abbrev pub rows : Rows Row
rows = record {
  lead_in = SelfSyncs 33 ∷ [];
  before = [];
  frame =
      AMark AddressField ∷ Address ∷ AMark Epilogue ∷ SelfSyncs 6 ∷ AMark DataField ∷ Content ∷ [];
  after = AMark Epilogue ∷ SelfSyncs 14 ∷ [];
  lead_out = [];
}

-- an address: volume, track, sector and check value
abbrev pub address_of : TrackId → ℕ → List ℕ
address_of track sector =
    VOLUME ∷ track.cylinder ∷ sector ∷ check_of VOLUME track.cylinder sector ∷ []

-- the cells of a row, for this sector with these bytes
abbrev pub row_cells : TrackId → Bool → ℕ → List ℕ → Row → List Bool
row_cells track before sector bytes (SelfSyncs count) = self_syncs count
row_cells track before sector bytes (AMark mark) = word_cells MARK_CELLS (word_of mark)
row_cells track before sector bytes Address = flat_map four_and_four (address_of track sector)
row_cells track before sector bytes Content = bytes_cells (data_nibbles bytes)

-- how many they are: as many nibbles for any bytes
abbrev pub row_size : ℕ → Row → ℕ
row_size bytes (SelfSyncs count) = 10 * count
row_size bytes (AMark mark) = 24
row_size bytes Address = 16 * 4
row_size bytes Content = 8 * 343

-- the ring
abbrev pub ring_of : TrackId → List ℕ → List Bool
ring_of track bytes = ring_of_rows false (row_cells track) 0 SECTORS SECTOR_SIZE bytes rows

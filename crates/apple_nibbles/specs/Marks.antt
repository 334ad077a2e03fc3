-- The marks with which the fields of Apple's disks begin, and the self-syncs between fields.
use Rattle.std.specs.Prelude.{ℕ, Bool, List, replicate, flat_map}
use Rattle.cell_bits.specs.Word.{Stands, word_cells}

-- what opens an address field, D5 AA 96, and a data field, D5 AA AD
abbrev pub ADDRESS_MARK : ℕ
ADDRESS_MARK = 0xD5AA96

abbrev pub DATA_MARK : ℕ
DATA_MARK = 0xD5AAAD

abbrev pub MARK_CELLS : ℕ
MARK_CELLS = 24

-- D5 AA, with which either field begins
abbrev pub DATA_SYNC : ℕ
DATA_SYNC = 0xD5AA

abbrev pub DATA_SYNC_CELLS : ℕ
DATA_SYNC_CELLS = 16

-- after a header D5 AA is a sync, whatever comes after it
abbrev pub IsSync : List Bool → ℕ → Type 0
IsSync cells place = Stands cells DATA_SYNC DATA_SYNC_CELLS place

-- the byte after it that opens data
abbrev pub DATA_BYTE : ℕ
DATA_BYTE = 0xAD

-- a self-sync, ten cells: the byte FF and two zeros
abbrev pub SELF_SYNC : ℕ
SELF_SYNC = 0x3FC

abbrev pub SELF_SYNC_CELLS : ℕ
SELF_SYNC_CELLS = 10

abbrev pub self_syncs : ℕ → List Bool
self_syncs count = flat_map (word_cells SELF_SYNC_CELLS) (replicate count SELF_SYNC)

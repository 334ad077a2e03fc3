-- The sectors of single density (IBM 3740, FM): what a header names and what data hold. A byte
-- takes 16 cells. Clock cells are looked at in marks alone.
use Rattle.std.specs.Prelude.{◌≡◌, ℕ, ◌+◌, ◌*◌, Bool, List, ◌∷◌, ◌⊎◌}
use Rattle.flux_base.specs.declared.track.TrackId.{TrackId}
use Rattle.cell_bits.specs.Bytes.{data_byte}
use Rattle.cell_bits.specs.Word.{Stands}
use Rattle.check_values.specs.Crc.{crc}
use Rattle.flux_base.specs.declared.header_name.HeaderName.{HeaderName}
use Rattle.ibm_fields.specs.Fields.{CHECK_START, ID_BYTE, address, address_named, bytes_at}
use Rattle.ibm_fields.specs.Fields.{number_at, sector_name}

-- the address marks by their cells: the ID mark is the byte FE, the data mark FB and the deleted
-- data mark F8, with clock C7, and the index mark FC with clock D7
abbrev pub ID_MARK : ℕ
ID_MARK = 0xF57E

abbrev pub DATA_MARK : ℕ
DATA_MARK = 0xF56F

abbrev pub DELETED_DATA_MARK : ℕ
DELETED_DATA_MARK = 0xF56A

abbrev pub INDEX_MARK : ℕ
INDEX_MARK = 0xF77A

abbrev pub MarkAt : List Bool → ℕ → ℕ → Type 0
MarkAt cells mark place = Stands cells mark 16 place

-- the check value of a field: that of its mark's byte and of its bytes
abbrev pub check_of : ℕ → List ℕ → ℕ
check_of mark bytes = crc CHECK_START (mark ∷ bytes)

-- the address of a sector, with the code of its length
abbrev pub address_of : ℕ → TrackId → ℕ → List ℕ
address_of size_code track sector = address track sector size_code

-- where the address and its check value begin, in cells from the header's begin
abbrev pub ADDRESS_PLACE : ℕ
ADDRESS_PLACE = 16

abbrev pub ADDRESS_CHECK_PLACE : ℕ
ADDRESS_CHECK_PLACE = 80

-- a header has a name: the address of this name, and the address's check value
pub record Names (cells : List Bool) (name : HeaderName) : Type 0 where
  pub address : bytes_at cells ADDRESS_PLACE 4 ≡ address_named name
  pub check : number_at cells ADDRESS_CHECK_PLACE ≡ check_of ID_BYTE (address_named name)

-- a header names a sector: the address of this sector of this track, and the address's check value
abbrev pub NamesSector : ℕ → TrackId → List Bool → ℕ → Type 0
NamesSector size_code track cells sector = Names cells (sector_name track sector size_code)

-- the marks that open data: the data mark and the deleted data mark
abbrev pub DataMarkAt : List Bool → ℕ → Type 0
DataMarkAt cells place = MarkAt cells DATA_MARK place ⊎ MarkAt cells DELETED_DATA_MARK place

-- the other marks
abbrev pub OtherMarkAt : List Bool → ℕ → Type 0
OtherMarkAt cells place = MarkAt cells ID_MARK place ⊎ MarkAt cells INDEX_MARK place

-- after a header any of the marks is a sync
abbrev pub IsSync : List Bool → ℕ → Type 0
IsSync cells place = DataMarkAt cells place ⊎ OtherMarkAt cells place

-- the cells of the data: mark, so many bytes, check value
abbrev pub DATA_CELLS : ℕ → ℕ
DATA_CELLS size = 16 * (size + 3)

-- where the bytes and their check value begin, in cells from the data's mark
abbrev pub CONTENT_PLACE : ℕ
CONTENT_PLACE = 16

abbrev pub CONTENT_CHECK_PLACE : ℕ → ℕ
CONTENT_CHECK_PLACE size = 16 * (size + 1)

-- data hold so many bytes: a mark that opens them, the bytes, and the check value
-- of the mark's byte and of them
pub record Hold (size : ℕ) (cells : List Bool) (sync : ℕ) (bytes : List ℕ) : Type 0 where
  pub opens : DataMarkAt cells sync
  pub content : bytes_at cells (sync + CONTENT_PLACE) size ≡ bytes
  pub check : number_at cells (sync + CONTENT_CHECK_PLACE size)
      ≡ check_of (data_byte cells sync) bytes

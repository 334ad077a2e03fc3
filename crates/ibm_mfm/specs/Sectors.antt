-- The sectors of the PC's disks, double density (IBM System 34, MFM): what a header names and what
-- data hold. A byte takes 16 cells. Clock cells are looked at in marks alone.
use Rattle.std.specs.Prelude.{◌≡◌, ℕ, ◌+◌, ◌*◌, Bool, List, ◌∷◌, ◌⊎◌}
use Rattle.flux_base.specs.declared.track.TrackId.{TrackId}
use Rattle.cell_bits.specs.Bytes.{data_byte}
use Rattle.cell_bits.specs.Word.{Stands}
use Rattle.check_values.specs.Crc.{crc}
use Rattle.flux_base.specs.declared.header_name.HeaderName.{HeaderName}
use Rattle.ibm_fields.specs.Fields.{CHECK_START, DATA_BYTE, DELETED_DATA_BYTE, ID_BYTE, address}
use Rattle.ibm_fields.specs.Fields.{address_named, bytes_at, number_at, sector_name}
use Rattle.mfm_coding.specs.Coding.{SYNC_MARK}

-- the check value of a field: that of the three marks' bytes A1, of its
-- first byte and of its other bytes
abbrev pub check_of : ℕ → List ℕ → ℕ
check_of first bytes = crc CHECK_START (0xA1 ∷ 0xA1 ∷ 0xA1 ∷ first ∷ bytes)

-- the address of a sector, with the code of its length
abbrev pub address_of : ℕ → TrackId → ℕ → List ℕ
address_of size_code track sector = address track sector size_code

-- where the third mark and the first byte after the marks stand, in cells from their begin
abbrev pub THIRD_MARK_PLACE : ℕ
THIRD_MARK_PLACE = 32

abbrev pub FIRST_BYTE_PLACE : ℕ
FIRST_BYTE_PLACE = 48

-- where the address and its check value begin, in cells from the header's begin
abbrev pub ADDRESS_PLACE : ℕ
ADDRESS_PLACE = 64

abbrev pub ADDRESS_CHECK_PLACE : ℕ
ADDRESS_CHECK_PLACE = 128

-- a header has a name: its third mark (the two before it are the sync with which all
-- headers begin), the byte FE, the address of this name, and the check value of the marks'
-- bytes, of this byte and of the address
pub record Names (cells : List Bool) (name : HeaderName) : Type 0 where
  pub third : Stands cells SYNC_MARK 16 THIRD_MARK_PLACE
  pub first : data_byte cells FIRST_BYTE_PLACE ≡ ID_BYTE
  pub address : bytes_at cells ADDRESS_PLACE 4 ≡ address_named name
  pub check : number_at cells ADDRESS_CHECK_PLACE ≡ check_of ID_BYTE (address_named name)

-- a header names a sector: its name is that of this sector of this
-- track, with the code of its length
abbrev pub NamesSector : ℕ → TrackId → List Bool → ℕ → Type 0
NamesSector size_code track cells sector = Names cells (sector_name track sector size_code)

-- a byte that opens data
abbrev pub OpensData : ℕ → Type 0
OpensData byte = (byte ≡ DATA_BYTE) ⊎ (byte ≡ DELETED_DATA_BYTE)

-- the cells of the data: three marks, the byte that opens them, so many bytes, check value
abbrev pub DATA_CELLS : ℕ → ℕ
DATA_CELLS size = 16 * (size + 6)

-- where the bytes and their check value begin, in cells from the data's sync
abbrev pub CONTENT_PLACE : ℕ
CONTENT_PLACE = 64

abbrev pub CONTENT_CHECK_PLACE : ℕ → ℕ
CONTENT_CHECK_PLACE size = 16 * (size + 4)

-- data hold so many bytes: a byte that opens them, the bytes, and the check value of the marks'
-- bytes, of that byte and of them
pub record Hold (size : ℕ) (cells : List Bool) (sync : ℕ) (bytes : List ℕ) : Type 0 where
  pub opens : OpensData (data_byte cells (sync + FIRST_BYTE_PLACE))
  pub content : bytes_at cells (sync + CONTENT_PLACE) size ≡ bytes
  pub check : number_at cells (sync + CONTENT_CHECK_PLACE size)
      ≡ check_of (data_byte cells (sync + FIRST_BYTE_PLACE)) bytes

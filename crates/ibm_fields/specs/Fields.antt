-- The fields of the IBM formats, single density (3740) and double density (System 34):
-- bytes that stand after a mark, and their check value. A byte takes 16 cells, and is
-- read from its data cells alone.
use Rattle.std.specs.Prelude.{ℕ, zero, suc, ◌+◌, ◌*◌, ◌/◌, ◌%◌, ◌^◌, Bool, List, [], ◌∷◌, Option}
use Rattle.std.specs.Prelude.{Some, None, if◌then◌else◌, nat_le}
use Rattle.flux_base.specs.declared.track.TrackId.{TrackId}
use Rattle.cell_bits.specs.Bytes.{data_byte}
use Rattle.flux_base.specs.declared.header_name.HeaderName.{HeaderName}
use Rattle.flux_base.specs.declared.header_name.HeaderName.TheVariants.{Address, TrackSector}
use Rattle.flux_base.specs.declared.header_name.HeaderName.TheVariants.{TrackSectorSide}

-- the bytes with which fields begin: that of a header, and those that open data,
-- which are data and deleted data
abbrev pub ID_BYTE : ℕ
ID_BYTE = 0xFE

abbrev pub DATA_BYTE : ℕ
DATA_BYTE = 0xFB

abbrev pub DELETED_DATA_BYTE : ℕ
DELETED_DATA_BYTE = 0xF8

-- the register of a check value before its field
abbrev pub CHECK_START : ℕ
CHECK_START = 0xFFFF

-- the address of a sector: cylinder, head, sector, and the code of its length
abbrev pub address : TrackId → ℕ → ℕ → List ℕ
address track sector size = track.cylinder ∷ track.head ∷ sector ∷ size ∷ []

-- how a header names a sector, and the address that stands in a header of a name
abbrev pub sector_name : TrackId → ℕ → ℕ → HeaderName
sector_name track sector size = Address track.cylinder track.head sector size

abbrev pub address_named : HeaderName → List ℕ
address_named (Address cylinder head sector size) = cylinder ∷ head ∷ sector ∷ size ∷ []
address_named (TrackSector track sector) = []
address_named (TrackSectorSide track sector side format) = []

-- the greatest code of a length
abbrev pub MOST_SIZE_CODE : ℕ
MOST_SIZE_CODE = 6

-- the bytes of a sector by the code of its length, from 0 on: 128, 256, 512, 1024, 2048, 4096, 8192
abbrev pub size_of_code : ℕ → Option ℕ
size_of_code code = if nat_le code MOST_SIZE_CODE then Some (128 * 2 ^ code) else None

-- and by the name of its header. A greater code tells a size that no data are read of
abbrev pub size_named : HeaderName → Option ℕ
size_named (Address cylinder head sector code) = size_of_code code
size_named (TrackSector track sector) = None
size_named (TrackSectorSide track sector side format) = None

-- the data bytes of so many bytes in a row
unfoldable pub bytes_at : List Bool → ℕ → ℕ → List ℕ
bytes_at cells place zero = []
bytes_at cells place (suc count) = data_byte cells place ∷ bytes_at cells (place + 16) count

-- two bytes as a number, high byte first
abbrev pub number_at : List Bool → ℕ → ℕ
number_at cells place = 256 * data_byte cells place + data_byte cells (place + 16)

-- a number of 16 bits as two bytes, high byte first
abbrev pub high_first : ℕ → List ℕ
high_first number = number / 256 ∷ number % 256 ∷ []

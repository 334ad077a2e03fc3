-- The sectors of the disks of Commodore's drives (group code): the bytes of their two blocks, what
-- a header names and what data hold.
use Rattle.std.specs.Prelude.{◌≡◌, ℕ, ◌+◌, Bool, List, [], ◌∷◌, ◌++◌, length}
use Rattle.flux_base.specs.declared.track.TrackId.{TrackId}
use Rattle.cell_bits.specs.Word.{Stands}
use Rattle.check_values.specs.Sums.{xor}
use Rattle.frame_law.specs.Frames.{DataStand, HeaderStands as Header, SectorStands as Sector}
use Rattle.flux_base.specs.declared.header_name.HeaderName.{HeaderName}
use Rattle.flux_base.specs.declared.header_name.HeaderName.TheVariants.{Address, TrackSector}
use Rattle.flux_base.specs.declared.header_name.HeaderName.TheVariants.{TrackSectorSide}
use Rattle.commodore_gcr.specs.Coding.{ByteAt, BytesAt}
use Rattle.commodore_gcr.specs.declared.drive.CommodoreDrive.{CommodoreDrive}
use Rattle.commodore_gcr.specs.Zones.{sectors_of, track_number}

-- the bytes of a sector
abbrev pub SECTOR_SIZE : ℕ
SECTOR_SIZE = 256

-- the first bytes of a header block and of a data block
abbrev pub HEADER_BYTE : ℕ
HEADER_BYTE = 0x08

abbrev pub DATA_BYTE : ℕ
DATA_BYTE = 0x07

-- the address of a sector of the track of this number, with the two bytes of the disk's id
abbrev pub numbered : ℕ → ℕ → ℕ → ℕ → List ℕ
numbered id1 id2 number sector = sector ∷ number ∷ id2 ∷ id1 ∷ []

abbrev pub address_of : CommodoreDrive → ℕ → ℕ → TrackId → ℕ → List ℕ
address_of drive id1 id2 track sector = numbered id1 id2 (track_number drive track) sector

-- a header: its first byte, the address's check value, and the address
abbrev pub numbered_bytes : ℕ → ℕ → ℕ → ℕ → List ℕ
numbered_bytes id1 id2 number sector =
    let address = numbered id1 id2 number sector in
    HEADER_BYTE ∷ xor address ∷ address

abbrev pub header_bytes : CommodoreDrive → ℕ → ℕ → TrackId → ℕ → List ℕ
header_bytes drive id1 id2 track sector = numbered_bytes id1 id2 (track_number drive track) sector

-- with the two bytes that fill the block up
abbrev pub header_block : CommodoreDrive → ℕ → ℕ → TrackId → ℕ → List ℕ
header_block drive id1 id2 track sector =
    header_bytes drive id1 id2 track sector ++ 0x0F ∷ 0x0F ∷ []

-- data: their first byte, a sector's bytes, and their check value
abbrev pub data_bytes : List ℕ → List ℕ
data_bytes bytes = DATA_BYTE ∷ (bytes ++ xor bytes ∷ [])

-- the two bytes that fill the block up
abbrev pub DATA_FILL : List ℕ
DATA_FILL = 0x00 ∷ 0x00 ∷ []

-- the sync: ten ones, however many stand before them, and the zero with which a block begins
abbrev pub SYNC : ℕ
SYNC = 0x7FE

abbrev pub SYNC_CELLS : ℕ
SYNC_CELLS = 11

-- the ones of a sync: its block begins so many cells after its place
abbrev pub SYNC_ONES : ℕ
SYNC_ONES = 10

-- the cells of a header: the sync's ones and six bytes
abbrev pub HEADER_CELLS : ℕ
HEADER_CELLS = 70

-- a header names the numbers of a track and a sector: the header's bytes of
-- these stand in it, for some id
pub record NamesNumbers (number : ℕ) (cells : List Bool) (sector : ℕ) : Type 0 where
  pub id1 : ℕ
  pub id2 : ℕ
  pub bytes : BytesAt cells SYNC_ONES (numbered_bytes id1 id2 number sector)

-- it has a name
abbrev pub Names : List Bool → HeaderName → Type 0
Names cells (TrackSector track sector) = NamesNumbers track cells sector
Names cells (Address cylinder head sector size) = ⊥
Names cells (TrackSectorSide number sector side format) = ⊥

-- it names a sector of this track
abbrev pub NamesSector : CommodoreDrive → TrackId → List Bool → ℕ → Type 0
NamesSector drive track cells sector = NamesNumbers (track_number drive track) cells sector

-- after a header any sync is one for data
abbrev pub IsSync : List Bool → ℕ → Type 0
IsSync cells place = Stands cells SYNC SYNC_CELLS place

-- the cells of the data: the sync's ones, a first byte, a sector's bytes and their check value
abbrev pub DATA_CELLS : ℕ
DATA_CELLS = 2590

-- where the bytes and their check value begin, in cells from the data's sync
abbrev pub CONTENT_PLACE : ℕ
CONTENT_PLACE = 20

abbrev pub CONTENT_CHECK_PLACE : ℕ
CONTENT_CHECK_PLACE = 2580

-- data hold a sector's bytes: the first byte of data, these bytes, and their check value
pub record Hold (cells : List Bool) (sync : ℕ) (bytes : List ℕ) : Type 0 where
  pub opens : ByteAt cells (sync + SYNC_ONES) DATA_BYTE
  pub size : length bytes ≡ SECTOR_SIZE
  pub content : BytesAt cells (sync + CONTENT_PLACE) bytes
  pub check : ByteAt cells (sync + CONTENT_CHECK_PLACE) (xor bytes)

-- a header and a sector stand, as on any track
abbrev pub HeaderStands : CommodoreDrive → TrackId → List Bool → ℕ → Type 0
HeaderStands drive track cells sector =
    Header SYNC SYNC_CELLS (λ some. HEADER_CELLS) 0 (sectors_of drive track)
    (NamesSector drive track) cells sector

abbrev pub SectorStands : CommodoreDrive → TrackId → List Bool → ℕ → List ℕ → Type 0
SectorStands drive track cells sector bytes =
    Sector (HeaderStands drive track cells sector)
    (DataStand (λ some. HEADER_CELLS) (λ some sync. sync + DATA_CELLS) IsSync Hold cells bytes)

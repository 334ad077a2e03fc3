-- The sectors of Apple's disks (DOS 3.3): what a header names and what data hold.
use Rattle.std.specs.Prelude.{◌≡◌, ℕ, ◌+◌, ◌<◌, Bool, List, [], ◌∷◌}
use Rattle.flux_base.specs.declared.track.TrackId.{TrackId}
use Rattle.check_values.specs.Sums.{xor}
use Rattle.frame_law.specs.Frames.{DataStand, HeaderStands as Header, SectorStands as Sector}
use Rattle.flux_base.specs.declared.header_name.HeaderName.{HeaderName}
use Rattle.flux_base.specs.declared.header_name.HeaderName.TheVariants.{Address, TrackSector}
use Rattle.flux_base.specs.declared.header_name.HeaderName.TheVariants.{TrackSectorSide}
use Rattle.apple_gcr.specs.DiskBytes.{byte_place, byte_read, bytes_end}
use Rattle.apple_gcr.specs.FourAndFour.{AreHalves}
use Rattle.apple_gcr.specs.SixAndTwo.{AreCoded, Carries, NIBBLES}
use Rattle.apple_nibbles.specs.Marks.{ADDRESS_MARK, DATA_BYTE, DATA_SYNC_CELLS, IsSync, MARK_CELLS}
use Rattle.apple_nibbles.specs.Nibbles.{BYTE_CELLS, disk_byte}

-- the tracks: 35 cylinders of one side
pub record IsAppleTrack (track : TrackId) : Type 0 where
  pub cylinder : track.cylinder < 35
  pub head : track.head ≡ 0

-- the sectors of a track, numbered from 0 in the order in which they pass
abbrev pub SECTORS : ℕ
SECTORS = 16

-- the bytes of a sector
abbrev pub SECTOR_SIZE : ℕ
SECTOR_SIZE = 256

-- the check value of an address
abbrev pub check_of : ℕ → ℕ → ℕ → ℕ
check_of volume cylinder sector = xor (volume ∷ cylinder ∷ sector ∷ [])

-- an address, which is eight disk bytes: any volume, the track of this number, this sector, and
-- their check value, each in 4-and-4
pub record IsAddress (track : ℕ) (read : ℕ → ℕ) (sector : ℕ) : Type 0 where
  pub volume : ℕ
  pub has_volume : AreHalves (read 0) (read 1) volume
  pub has_track : AreHalves (read 2) (read 3) track
  pub has_sector : AreHalves (read 4) (read 5) sector
  pub has_check : AreHalves (read 6) (read 7) (check_of volume track sector)

-- that of this name
abbrev pub IsAddressOf : (ℕ → ℕ) → HeaderName → Type 0
IsAddressOf read (TrackSector track sector) = IsAddress track read sector
IsAddressOf read (Address cylinder head sector size) = ⊥
IsAddressOf read (TrackSectorSide number sector side format) = ⊥

abbrev pub ADDRESS_BYTES : ℕ
ADDRESS_BYTES = 8

-- In all that follows `passed` is how many zeros before a byte are passed over at most.

-- a header has a name: the bytes that are read after its mark are the address of this name
abbrev pub Names : (passed : ℕ) → List Bool → HeaderName → Type 0
Names passed cells name = IsAddressOf (byte_read passed cells MARK_CELLS) name

-- it names a sector of this track
abbrev pub NamesSector : (passed : ℕ) → TrackId → List Bool → ℕ → Type 0
NamesSector passed track cells sector =
    IsAddress track.cylinder (byte_read passed cells MARK_CELLS) sector

-- it ends after them
abbrev pub header_end : (passed : ℕ) → List Bool → ℕ
header_end passed cells = bytes_end passed cells MARK_CELLS ADDRESS_BYTES

-- the place of the byte that is read after a sync, and the place after that byte
abbrev pub opening_place : (passed : ℕ) → List Bool → ℕ → ℕ
opening_place passed cells sync = byte_place passed cells (sync + DATA_SYNC_CELLS)

abbrev pub opening_end : (passed : ℕ) → List Bool → ℕ → ℕ
opening_end passed cells sync = opening_place passed cells sync + BYTE_CELLS

-- data hold bytes: AD is read after their sync, and then the nibbles of values that carry the bytes
pub record Hold (passed : ℕ) (cells : List Bool) (sync : ℕ) (bytes : List ℕ) : Type 0 where
  pub opens : disk_byte cells (opening_place passed cells sync) ≡ DATA_BYTE
  pub values : List ℕ
  pub coded : AreCoded (byte_read passed cells (opening_end passed cells sync)) values
  pub carried : Carries values bytes

-- they end after these
abbrev pub data_end : (passed : ℕ) → List Bool → ℕ → ℕ
data_end passed cells sync = bytes_end passed cells (opening_end passed cells sync) NIBBLES

-- a header, and a sector: its header and the data at the first sync after it
abbrev pub HeaderStands : (passed : ℕ) → TrackId → List Bool → ℕ → Type 0
HeaderStands passed track cells sector = Header ADDRESS_MARK MARK_CELLS (header_end passed) 0
    SECTORS (NamesSector passed track) cells sector

abbrev pub SectorStands : (passed : ℕ) → TrackId → List Bool → ℕ → List ℕ → Type 0
SectorStands passed track cells sector bytes =
    Sector (HeaderStands passed track cells sector)
    (DataStand (header_end passed) (data_end passed) IsSync (Hold passed) cells bytes)

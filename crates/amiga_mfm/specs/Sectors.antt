-- The sectors of Amiga disks (Amiga trackdisk): what a header names and what data hold. A frame is
-- the sync, two marks A1, and then longs: the info, the label of four longs, the check value of
-- both, the check value of the data, and the data. There is no second sync.
use Rattle.std.specs.Prelude.{◌≡◌, ℕ, ◌+◌, ◌*◌, ◌^◌, Bool, List, [], ◌∷◌, take}
use Rattle.std.specs.Int.{to_be_bytes, w32}
use Rattle.flux_base.specs.declared.track.TrackId.{TrackId}
use Rattle.check_values.specs.Sums.{data_xor}
use Rattle.flux_base.specs.declared.header_name.HeaderName.{HeaderName}
use Rattle.flux_base.specs.declared.header_name.HeaderName.TheVariants.{Address, TrackSector}
use Rattle.flux_base.specs.declared.header_name.HeaderName.TheVariants.{TrackSectorSide}
use Rattle.mfm_coding.specs.Coding.{SYNC_MARK}
use Rattle.amiga_mfm.specs.Longs.{HALF_CELLS, bytes_at, long_at, raw_longs}

-- the number by which a header names its track
abbrev pub track_number : TrackId → ℕ
track_number track = 2 * track.cylinder + track.head

-- the bytes and longs of a sector
abbrev pub SECTOR_SIZE : ℕ
SECTOR_SIZE = 512

abbrev pub SECTOR_LONGS : ℕ
SECTOR_LONGS = 128

-- the sync: two marks A1 with a missing clock, as one word
abbrev pub SYNC : ℕ
SYNC = SYNC_MARK * 2 ^ 16 + SYNC_MARK

-- the first byte of the info long
abbrev pub FORMAT_BYTE : ℕ
FORMAT_BYTE = 0xFF

-- the halves of info and label
abbrev pub HEADER_HALVES : ℕ
HEADER_HALVES = 10

-- where the parts of a frame before its data begin
abbrev pub INFO : ℕ
INFO = 32

abbrev pub HEADER_CHECK : ℕ
HEADER_CHECK = 352

abbrev pub DATA_CHECK : ℕ
DATA_CHECK = 416

-- the cells of a header, and those of the data, which follow it
abbrev pub HEADER_CELLS : ℕ
HEADER_CELLS = 480

-- A header names the numbers of a track and a sector: the bytes of the info are FF, these two,
-- and the number of sectors to the gap, which is not looked at; and the check value is that of
-- the halves of info and label.
pub record NamesNumbers (track : ℕ) (cells : List Bool) (sector : ℕ) : Type 0 where
  pub info : take 3 (to_be_bytes w32 (long_at cells INFO HALF_CELLS))
      ≡ FORMAT_BYTE ∷ track ∷ sector ∷ []
  pub check : long_at cells HEADER_CHECK HALF_CELLS ≡ data_xor (raw_longs cells INFO HEADER_HALVES)

-- it has a name
abbrev pub Names : List Bool → HeaderName → Type 0
Names cells (TrackSector track sector) = NamesNumbers track cells sector
Names cells (Address cylinder head sector size) = ⊥
Names cells (TrackSectorSide number sector side format) = ⊥

-- it names a sector of this track
abbrev pub NamesSector : TrackId → List Bool → ℕ → Type 0
NamesSector track cells sector = NamesNumbers (track_number track) cells sector

-- the data have no sync: they begin where the header ends
abbrev pub IsDataPlace : List Bool → ℕ → Type 0
IsDataPlace cells place = place ≡ HEADER_CELLS

-- the bytes of the data at a place: 128 longs, all odd halves before all even ones
abbrev pub content_at : List Bool → ℕ → List ℕ
content_at cells place = bytes_at cells place (HALF_CELLS * SECTOR_LONGS) SECTOR_LONGS

-- data hold bytes: these, and the check value of their halves
pub record Hold (cells : List Bool) (place : ℕ) (bytes : List ℕ) : Type 0 where
  pub content : content_at cells place ≡ bytes
  pub check : long_at cells DATA_CHECK HALF_CELLS
      ≡ data_xor (raw_longs cells place (2 * SECTOR_LONGS))

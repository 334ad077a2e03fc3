-- The numbers of a track of IBM's recordings, and how many bytes its parts have. A
-- byte, and a mark, takes 16 cells.
use Rattle.std.specs.Prelude.{ℕ, ◌+◌, ◌*◌, ◌<◌, ◌≤◌}
use Rattle.ibm_disks.specs.declared.sector_size.SectorSize.{SectorSize}
use Rattle.ibm_disks.specs.declared.sector_size.SectorSize.TheVariants.{Bytes128, Bytes256}
use Rattle.ibm_disks.specs.declared.sector_size.SectorSize.TheVariants.{Bytes512, Bytes1024}
use Rattle.ibm_disks.specs.declared.track_numbers.LeadIn.{LeadIn}
use Rattle.ibm_disks.specs.declared.track_numbers.LeadIn.TheVariants.{Indexed, Bare}
use Rattle.ibm_disks.specs.declared.track_numbers.TrackNumbers.{TrackNumbers}

-- the bytes of a sector, and the code of that size in a header
abbrev pub size_of : SectorSize → ℕ
size_of Bytes128 = 128
size_of Bytes256 = 256
size_of Bytes512 = 512
size_of Bytes1024 = 1024

abbrev pub code_of : SectorSize → ℕ
code_of Bytes128 = 0
code_of Bytes256 = 1
code_of Bytes512 = 2
code_of Bytes1024 = 3

-- the bytes before the gap that ends a track: those before the first sector, and those of each
-- sector with its gap, which has so many around its own
abbrev pub used : (before around : ℕ) → TrackNumbers → ℕ
used before around track = before + track.sectors * (around + size_of track.size + track.sector_gap)

-- The numbers fill a track: it has sectors, whose numbers have 8 bits, they leave a byte at least
-- for the gap that ends it, and it is not too long.
pub record FillTrack (before around : ℕ) (track : TrackNumbers) : Type 0 where
  pub some : 1 ≤ track.sectors
  pub few : track.first_sector + track.sectors ≤ 256
  pub within : used before around track < track.bytes
  pub short : track.bytes ≤ 16384

-- Double density: a gap of 80 bytes, 12 of 00, four with the index mark, and a gap of 50, or else a
-- gap of 10; and around the bytes of a sector 12 bytes of 00, or else 3, and then 10 of the header,
-- 22 of a gap, 12 of 00, and 6 of the data.
abbrev pub mfm_before : LeadIn → ℕ
mfm_before Indexed = 146
mfm_before Bare = 10

abbrev pub mfm_zeros : LeadIn → ℕ
mfm_zeros Indexed = 12
mfm_zeros Bare = 3

abbrev pub mfm_around : LeadIn → ℕ
mfm_around lead_in = mfm_zeros lead_in + 50

abbrev pub FillMfmTrack : TrackNumbers → Type 0
FillMfmTrack track = FillTrack (mfm_before track.lead_in) (mfm_around track.lead_in) track

-- Single density: a gap of 40 bytes, 6 of 00, the index mark, and a gap of 26, or else a
-- gap of 16; and around the bytes of a sector 6 bytes of 00, 7 of the header, 11 of a
-- gap, 6 of 00, and 3 of the data.
abbrev pub fm_before : LeadIn → ℕ
fm_before Indexed = 73
fm_before Bare = 16

abbrev pub FM_AROUND : ℕ
FM_AROUND = 33

abbrev pub FillFmTrack : TrackNumbers → Type 0
FillFmTrack track = FillTrack (fm_before track.lead_in) FM_AROUND track

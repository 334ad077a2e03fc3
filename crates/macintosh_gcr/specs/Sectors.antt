-- The sectors of the Macintosh's disks of 400 and 800 KB: what a header names and what data hold.
use Rattle.std.specs.Prelude.{◌≡◌, ℕ, ◌+◌, ◌*◌, ◌/◌, ◌%◌, ◌<◌, Bool, List, [], ◌∷◌, ◌++◌, length}
use Rattle.std.specs.Prelude.{get_or}
use Rattle.flux_base.specs.declared.track.TrackId.{TrackId}
use Rattle.check_values.specs.Sums.{xor}
use Rattle.disk_zones.specs.Zones.{macintosh_zone}
use Rattle.disk_zones.specs.declared.zones.Zone.{Zone}
use Rattle.flux_base.specs.declared.header_name.HeaderName.{HeaderName}
use Rattle.flux_base.specs.declared.header_name.HeaderName.TheVariants.{Address, TrackSector}
use Rattle.flux_base.specs.declared.header_name.HeaderName.TheVariants.{TrackSectorSide}
use Rattle.apple_nibbles.specs.Marks.{DATA_BYTE, MARK_CELLS}
use Rattle.apple_nibbles.specs.Nibbles.{disk_byte, nibble}
use Rattle.macintosh_gcr.specs.Coding.{IsCoded, TAGS}
use Rattle.macintosh_gcr.specs.declared.recording.MacintoshGcr.{MacintoshGcr}
use Rattle.macintosh_gcr.specs.declared.recording.MacintoshGcr.TheVariants.{SingleSided}
use Rattle.macintosh_gcr.specs.declared.recording.MacintoshGcr.TheVariants.{DoubleSided}

-- the heads of a disk
abbrev pub heads_of : MacintoshGcr → ℕ
heads_of SingleSided = 1
heads_of DoubleSided = 2

-- the tracks: 80 cylinders
pub record IsMacintoshTrack (disk : MacintoshGcr) (track : TrackId) : Type 0 where
  pub cylinder : track.cylinder < 80
  pub head : track.head < heads_of disk

-- the zone of a track
abbrev pub zone_of : TrackId → Zone
zone_of track = macintosh_zone track.cylinder

-- the sectors of a track, numbered from 0
abbrev pub sectors_of : TrackId → ℕ
sectors_of track = (zone_of track).sectors

-- the bytes of a sector
abbrev pub SECTOR_SIZE : ℕ
SECTOR_SIZE = 512

-- Nibbles of these values stand one after another from a place on.
abbrev pub NibblesAt : List Bool → ℕ → List ℕ → Type 0
NibblesAt cells place values =
    (k : ℕ) → k < length values → disk_byte cells (place + 8 * k) ≡ nibble (get_or values k 0)

-- the values by which a header names a track: the low six bits of its cylinder, and its head
-- with the cylinder's seventh bit
abbrev pub low_value : TrackId → ℕ
low_value track = track.cylinder % 64

abbrev pub side_value : TrackId → ℕ
side_value track = 32 * track.head + track.cylinder / 64

-- the values of a name: those of the track, the sector's number between them, and a number that
-- says how the disk was formatted
abbrev pub named_values : ℕ → ℕ → ℕ → ℕ → List ℕ
named_values low side sector format = low ∷ sector ∷ side ∷ format ∷ []

-- the name of a sector
abbrev pub name_of : TrackId → ℕ → ℕ → List ℕ
name_of track sector format = named_values (low_value track) (side_value track) sector format

-- with its check value
abbrev pub checked : List ℕ → List ℕ
checked values = values ++ xor values ∷ []

-- a header's values: the name, and its check value
abbrev pub header_values : TrackId → ℕ → ℕ → List ℕ
header_values track sector format = checked (name_of track sector format)

-- a header names a track by such values, a sector and a format: their nibbles stand after the mark
pub record NamesValues (low side format : ℕ) (cells : List Bool) (sector : ℕ) : Type 0 where
  pub format_fits : format < 64
  pub low_fits : low < 64
  pub side_fits : side < 64
  pub sector_fits : sector < 64
  pub values : NibblesAt cells MARK_CELLS (checked (named_values low side sector format))

-- it has a name: these values
abbrev pub Names : List Bool → HeaderName → Type 0
Names cells (Address cylinder head sector size) = ⊥
Names cells (TrackSector track sector) = ⊥
Names cells (TrackSectorSide low sector side format) = NamesValues low side format cells sector

-- a name is one of a sector of this track, whatever the disk's format
abbrev pub IsNameOf : TrackId → HeaderName → ℕ → Type 0
IsNameOf track name sector =
    (format : ℕ) × (name ≡ TrackSectorSide (low_value track) sector (side_value track) format)

-- a header names a sector of this track
abbrev pub NamesSector : TrackId → List Bool → ℕ → Type 0
NamesSector track cells sector =
    (format : ℕ) × NamesValues (low_value track) (side_value track) format cells sector

-- the place of the nibble that has the sector's number
abbrev pub SECTOR_PLACE : ℕ
SECTOR_PLACE = 32

-- Data hold a sector's bytes: AD after their sync, the nibble of the sector's number as the
-- header has it, and the nibbles of the bytes with tags before them. What the tags and the two
-- spare bits are does not matter.
pub record Hold (cells : List Bool) (sync : ℕ) (bytes : List ℕ) : Type 0 where
  pub opens : disk_byte cells (sync + 16) ≡ DATA_BYTE
  pub of_sector : disk_byte cells (sync + 24) ≡ disk_byte cells SECTOR_PLACE
  pub tags : List ℕ
  pub coded_values : List ℕ
  pub tags_size : length tags ≡ TAGS
  pub size : length bytes ≡ SECTOR_SIZE
  pub coded : IsCoded coded_values (tags ++ bytes)
  pub stand : NibblesAt cells (sync + 32) coded_values

-- What the headers of a captured track say, as ImageDisk's records are made of them.
use Rattle.std.specs.Prelude.{◌≡◌, ◌<◌, ℕ, Contains, List, ◌∷◌, length}
use Rattle.flux_base.specs.declared.track.TrackId.{TrackId}
use Rattle.flux_engine.specs.Captures.{Capture, IsSteady}
use Rattle.flux_engine.specs.Recordings.{track_at}
use Rattle.flux_engine.specs.Rings.{IsImage, nominal_of, ring_of, sector_bytes}
use Rattle.ibm_disks.specs.Disks.{rate_of, track_of_disk}
use Rattle.ibm_disks.specs.Numbers.{code_of}
use Rattle.ibm_disks.specs.declared.disk.IbmDisk.{IbmDisk}
use Rattle.ibm_fields.specs.Fields.{DATA_BYTE}
use Rattle.ibm_walks.specs.Walks.{AreNamesBy}
use Rattle.kryo_stream.specs.Stream.{indexes, times}
use Rattle.law_captured_disks.specs.Headline.{IsSectorOf}
use Rattle.name_book.specs.Names.{NotedData}
use Rattle.name_book.specs.declared.name.NamedHeader.{NamedHeader}
use Rattle.name_book.specs.declared.name.SectorName.{SectorName}
use Rattle.sector_images.specs.Places.{tracks}
use Rattle.sector_images.specs.declared.format.Format.TheVariants.{Numbered}
use Rattle.turn_merge.specs.declared.clock.Clock.{Clock}

-- how headers name a sector of a disk's track
abbrev pub name_on : IbmDisk → TrackId → (sector : ℕ) → SectorName
name_on disk track sector = record {
  cylinder = track.cylinder;
  head = track.head;
  number = sector;
  code = code_of (track_of_disk disk).size;
}

-- a name of one of the sectors of track number n
pub record IsNameOn (disk : IbmDisk) (n : ℕ) (name : SectorName) : Type 0 where
  pub sector : ℕ
  pub known : IsSectorOf (Numbered disk) n sector
  pub is : name ≡ name_on disk (track_at (Numbered disk) n) sector

-- what whole data of one of them hold: the mark of data, and the bytes that an image has of it
abbrev pub held_on : (disk : IbmDisk) (image : List ℕ) (n sector : ℕ) → List ℕ
held_on disk image n sector =
    DATA_BYTE ∷ sector_bytes (Numbered disk) (track_at (Numbered disk) n) image sector

-- data of one of them
pub record AreDataOn (disk : IbmDisk) (image : List ℕ) (n : ℕ) (noted : NotedData) : Type 0 where
  pub name : IsNameOn disk n noted.name
  pub held : noted.held ≡ held_on disk image n name.sector

-- all headers and all whole data are those of the track's sectors, of which each is met with both
pub record AreOfTrack (disk : IbmDisk) (image : List ℕ) (n : ℕ) (headers : List NamedHeader)
    (noted : List NotedData) : Type 0 where
  pub names : (header : NamedHeader) → Contains headers header → IsNameOn disk n header.name
  pub held : (d : NotedData) → Contains noted d → AreDataOn disk image n d
  pub each : (sector : ℕ) → IsSectorOf (Numbered disk) n sector
      → (header : NamedHeader) × Contains headers header
      × (header.name ≡ name_on disk (track_at (Numbered disk) n) sector)
  pub whole : (sector : ℕ) → IsSectorOf (Numbered disk) n sector
      → (d : NotedData) × Contains noted d
      × (d.name ≡ name_on disk (track_at (Numbered disk) n) sector)

-- So it is with what a clock reads by the disk's rate of a stream that captures the track, by a
-- drive that keeps its speed.
abbrev pub CapturedTracksHaveOwnNames : Type 0
CapturedTracksHaveOwnNames =
    (clock : Clock) (disk : IbmDisk) (image x : List ℕ) (n dump : ℕ) (headers : List NamedHeader)
    (noted : List NotedData)
    → IsImage (Numbered disk) image → n < length (tracks (Numbered disk))
    → (capture : Capture x (ring_of (Numbered disk) image n) (nominal_of (Numbered disk) n))
    → IsSteady x (ring_of (Numbered disk) image n) (nominal_of (Numbered disk) n) capture
    → AreNamesBy clock (rate_of disk) dump (times x) (indexes x) headers noted
    → AreOfTrack disk image n headers noted

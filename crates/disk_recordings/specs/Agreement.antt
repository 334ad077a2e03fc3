-- That a recording is one for a format: it has the format's geometry, and what
-- stands is the same for all ids.
use Rattle.std.specs.Prelude.{◌≡◌, ◌↔◌, ◌<◌, ℕ, Bool, List}
use Rattle.flux_base.specs.declared.header_name.HeaderName.{HeaderName}
use Rattle.flux_base.specs.declared.track.TrackId.{TrackId}
use Rattle.sector_images.specs.Formats.{row, zone}
use Rattle.sector_images.specs.Places.{IsTrack}
use Rattle.sector_images.specs.declared.format.Format.{Format}
use Rattle.disk_recordings.specs.Members.{data_at, frame_cells, header_at, named_at, place_in_ring}
use Rattle.disk_recordings.specs.Members.{sector_at}
use Rattle.disk_recordings.specs.Recordings.{DiskRecording, recording_of}
use Rattle.disk_recordings.specs.declared.disk_id.DiskId.{DiskId}
use Rattle.disk_recordings.specs.declared.disk_id.IdPlace.{IdPlace}
use Rattle.disk_recordings.specs.contracts.meaning.DiskRecordingMeaning.TheImpl.{ghosts}

-- The format's tracks are tracks of the recording, with the sectors, the bytes of a
-- sector and the cells of a ring that the format has, and headers and sectors are those
-- of the format, at its places.
pub record Agrees (format : Format) (recording : DiskRecording) : Type 0 where
  pub track : (track : TrackId) → IsTrack format track → ghosts.has_track recording track
  pub first : ghosts.first_sector recording ≡ (row format).first_sector
  pub size : ghosts.sector_size recording ≡ (row format).sector_size
  pub sectors : (track : TrackId) → IsTrack format track
      → ghosts.sectors recording track ≡ (zone format track.cylinder).sectors
  pub ring_cells : (track : TrackId) → IsTrack format track
      → ghosts.ring_cells recording track ≡ (zone format track.cylinder).ring_cells
  pub place : (track : TrackId) (sector : ℕ)
      → ghosts.sector_place recording track sector ≡ place_in_ring format track sector
  pub frame : ghosts.frame_cells recording ≡ frame_cells format
  pub header : (track : TrackId) (cells : List Bool) (s : ℕ)
      → ghosts.header_at recording track cells s ↔ header_at format track cells s
  pub sector : (track : TrackId) (cells : List Bool) (s : ℕ) (bytes : List ℕ)
      → ghosts.sector_at recording track cells s bytes ↔ sector_at format track cells s bytes
  pub named : (cells : List Bool) (name : HeaderName)
      → ghosts.named_at recording cells name ↔ named_at format cells name
  pub data_same : (cells : List Bool) (place : ℕ) (bytes : List ℕ)
      → ghosts.data_at recording cells place bytes ↔ data_at format cells place bytes

-- the place is in the format's images: it lies in a sector 0 of 256 bytes, with a byte behind it
pub record IsIdPlace (format : Format) (place : IdPlace) : Type 0 where
  pub track : IsTrack format place.track
  pub first : (row format).first_sector ≡ 0
  pub size : (row format).sector_size ≡ 256
  pub byte : place.byte < 255

-- the recording is one for all ids
abbrev pub HasNoId : Format → Type 0
HasNoId format = (id other : DiskId) → recording_of format id ≡ recording_of format other

-- Sectors of a format's track, as the format's recording has them.
use Rattle.std.specs.Prelude.{ℕ, List}
use Rattle.flux_base.specs.declared.track.TrackId.{TrackId}
use Rattle.sector_images.specs.Formats.{zone}
use Rattle.sector_images.specs.Places.{IsSector, IsTrack}
use Rattle.sector_images.specs.declared.format.Format.{Format}
use Rattle.track_rings.specs.Rings.{AreSectors, IsSectorNumber, LiesAt}
use Rattle.disk_recordings.specs.Laws.{AreTrackBytes}
use Rattle.disk_recordings.specs.Members.{frame_cells, place_in_ring}
use Rattle.disk_recordings.specs.Recordings.{recording_of}
use Rattle.disk_recordings.specs.contracts.meaning.DiskRecordingMeaning.TheImpl.{ghosts}
use Rattle.disk_recordings.specs.declared.disk_id.DiskId.{DiskId}
use Rattle.disk_recordings.proofs.Agree.{agrees}

module _ (format : Format) (id : DiskId) (track : TrackId) (known : IsTrack format track) where
  pub has_track : ghosts.has_track (recording_of format id) track
  has_track = (agrees format id).track track known

  pub are_sectors : (bytes : List ℕ) → AreTrackBytes format track bytes
      → AreSectors (ghosts.sectors (recording_of format id) track) (ghosts.sector_size (recording_of format id)) bytes
  are_sectors bytes are = rw ((agrees format id).sectors track known, (agrees format id).size) are

  pub is_number : (s : ℕ) → IsSector format track s → IsSectorNumber (ghosts.first_sector (recording_of format id)) (ghosts.sectors (recording_of format id) track) s
  is_number s known_sector =
      rw ((agrees format id).sectors track known, (agrees format id).first) (record { least = known_sector.0; most = known_sector.1 })

  pub lies : (s from count place : ℕ) → LiesAt (zone format track.cylinder).ring_cells (place_in_ring format track s) (frame_cells format) from count place
      → LiesAt (ghosts.ring_cells (recording_of format id) track) (ghosts.sector_place (recording_of format id) track s) (ghosts.frame_cells (recording_of format id)) from count place
  lies s from count place at =
      rw ((agrees format id).ring_cells track known, (agrees format id).place track s, (agrees format id).frame) at

-- What stands on the tracks of a format, by the format's recording.
use Rattle.std.specs.Prelude.{ℕ, Bool, List}
use Rattle.flux_base.specs.declared.header_name.HeaderName.{HeaderName}
use Rattle.flux_base.specs.declared.track.TrackId.{TrackId}
use Rattle.sector_images.specs.declared.format.Format.{Format}
use Rattle.sector_images.specs.declared.format.Format.TheVariants.{AppleDo, ApplePo, AppleDos33}
use Rattle.sector_images.specs.declared.format.Format.TheVariants.{AppleProdos}
use Rattle.disk_recordings.specs.Recordings.{ANY_ID, recording_of}
use Rattle.disk_recordings.specs.contracts.meaning.DiskRecordingMeaning.TheImpl.{ghosts}
use Rattle.disk_recordings.specs.declared.disk_id.DiskId.{DiskId}

-- the header of this sector of the track stands at the front of the cells
abbrev pub header_at : Format → TrackId → List Bool → ℕ → Type 0
header_at format = ghosts.header_at (recording_of format ANY_ID)

-- this sector of the track stands at the front of the cells, with these bytes
abbrev pub sector_at : Format → TrackId → List Bool → ℕ → List ℕ → Type 0
sector_at format = ghosts.sector_at (recording_of format ANY_ID)

-- by the second rule, as controllers read: data of the header at the front of the cells stand
-- at this place, with these bytes
abbrev pub data_at : Format → List Bool → ℕ → List ℕ → Type 0
data_at format = ghosts.data_at (recording_of format ANY_ID)

-- a header of this name stands at the front of the cells
abbrev pub named_at : Format → List Bool → HeaderName → Type 0
named_at format = ghosts.named_at (recording_of format ANY_ID)

-- a header of this name is one of this sector of the track
abbrev pub is_name_of : Format → TrackId → HeaderName → ℕ → Type 0
is_name_of format = ghosts.is_name_of (recording_of format ANY_ID)

-- by the second rule: data of the size that this name tells stand after the header at the front of
-- the cells, which has this name
abbrev pub whole_data_of : Format → List Bool → HeaderName → Type 0
whole_data_of format = ghosts.whole_data_of (recording_of format ANY_ID)

-- The format as which a controller reads the format's disks: it waits for the one with which a
-- byte of an Apple disk begins.
abbrev pub as_controllers_read : Format → Format
as_controllers_read AppleDo = AppleDos33
as_controllers_read ApplePo = AppleProdos
as_controllers_read format = format

-- the ring of a track with these bytes of its sectors, on a disk with this id
abbrev pub ring_at : Format → DiskId → TrackId → List ℕ → List Bool
ring_at format id = ghosts.ring (recording_of format id)

-- the place in the ring at which a sector's header begins
abbrev pub place_in_ring : Format → TrackId → ℕ → ℕ
place_in_ring format = ghosts.sector_place (recording_of format ANY_ID)

-- how many cells of the ring a sector's frame has
abbrev pub frame_cells : Format → ℕ
frame_cells format = ghosts.frame_cells (recording_of format ANY_ID)

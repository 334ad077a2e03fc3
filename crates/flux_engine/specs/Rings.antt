-- What is written of an image: for each track its ring, with the image's bytes in its
-- sectors, and the stream of the ring.
use Rattle.std.specs.Prelude.{◌≡◌, ◌≤◌, ◌<◌, ℕ, ◌+◌, All, Bool, List, length, take, drop, flat_map}
use Rattle.std.specs.Prelude.{get_or, Option, Some, None}
use Rattle.std.specs.List.{range_with_len}
use Rattle.cell_bits.specs.State.{CellsState, room}
use Rattle.disk_recordings.specs.Ids.{id_place}
use Rattle.disk_recordings.specs.Members.{ring_at}
use Rattle.disk_recordings.specs.Recordings.{ANY_ID}
use Rattle.disk_recordings.specs.declared.disk_id.DiskId.{DiskId}
use Rattle.disk_recordings.specs.declared.disk_id.IdPlace.{IdPlace}
use Rattle.flux_base.specs.declared.track.TrackId.{TrackId}
use Rattle.flux_writer.specs.Written.{stream_of}
use Rattle.track_rings.specs.Rings.{IsSpaced}
use Rattle.sector_images.specs.Formats.{row, zone}
use Rattle.sector_images.specs.Places.{IsTrack, sector_place, tracks}
use Rattle.sector_images.specs.declared.format.Format.{Format}
use Rattle.flux_engine.specs.Recordings.{sectors_of, track_at}
use Rattle.flux_engine.specs.Tracks.{numbers}

-- bytes, as many as an image of the format has
pub record IsImage (format : Format) (image : List ℕ) : Type 0 where
  pub size : length image ≡ (row format).image_size
  pub fit : All (λ byte. byte < 256) image

-- the bytes that an image has at a sector's place
abbrev pub sector_bytes : Format → TrackId → List ℕ → ℕ → List ℕ
sector_bytes format track image sector =
    take (row format).sector_size (drop (sector_place format track sector) image)

-- the bytes of all sectors of a track, in the order of the sectors' numbers
unfoldable pub track_bytes : Format → TrackId → List ℕ → List ℕ
track_bytes format track image =
    flat_map (sector_bytes format track image) (numbers (sectors_of format track))

-- the byte that an image has so many bytes behind the beginning of a sector 0
abbrev pub id_byte : Format → TrackId → List ℕ → ℕ → ℕ
id_byte format track image offset = get_or image (sector_place format track 0 + offset) 0

-- the id of the disk that an image has, where it stands; disks of other formats have none
abbrev pub id_at : Option IdPlace → Format → List ℕ → DiskId
id_at (Some place) format image = record {
  first = id_byte format place.track image place.byte;
  second = id_byte format place.track image (place.byte + 1);
}
id_at None format image = ANY_ID

abbrev pub disk_id : Format → List ℕ → DiskId
disk_id format image = id_at (id_place format) format image

-- the ring of a track with an image's bytes in its sectors
abbrev pub ring_with : Format → TrackId → List ℕ → List Bool
ring_with format track image =
    ring_at format (disk_id format image) track (track_bytes format track image)

-- the ring of track number k, from 0
abbrev pub ring_of : Format → List ℕ → ℕ → List Bool
ring_of format image k = ring_with format (track_at format k) image

-- the nominal cell of track number k, in fine units
abbrev pub nominal_of : Format → ℕ → ℕ
nominal_of format k = (zone format (track_at format k).cylinder).nominal

-- the cells of the ring of track number k
abbrev pub ring_cells_of : Format → ℕ → ℕ
ring_cells_of format k = (zone format (track_at format k).cylinder).ring_cells

-- the stream of track number k
abbrev pub track_stream : Format → List ℕ → ℕ → List ℕ
track_stream format image k = stream_of (ring_of format image k) (nominal_of format k)

-- the streams of all tracks in order, one after another
unfoldable pub streams_of : Format → List ℕ → List ℕ
streams_of format image =
    flat_map (track_stream format image) (range_with_len 0 (length (tracks format)))

-- A ring has so many cells, and its neighbouring ones, read
-- cyclically, are one to four cells apart.
pub record IsRing (cells : ℕ) (ring : List Bool) : Type 0 where
  pub cells_are : length ring ≡ cells
  pub spaced : IsSpaced 1 4 ring

-- there is room for the ring of each track
abbrev pub HasRoomForRings : Format → CellsState → Type 0
HasRoomForRings format cells =
    (track : TrackId) → IsTrack format track → (zone format track.cylinder).ring_cells ≤ room cells

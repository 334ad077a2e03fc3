-- Where the frames of a track's sectors lie in its ring, and in the pieces of a captured track.
use Rattle.std.specs.Prelude.{ℕ, ◌+◌, ◌-◌, ◌<◌, List, length, slice_index}
use Rattle.frame_law.specs.Controller.{START_ZEROS, SectorStandsBy}
use Rattle.law_decoded_rings.specs.Pieces.{RingPiece}
use Rattle.disk_recordings.specs.Members.{as_controllers_read, data_at, frame_cells, header_at}
use Rattle.disk_recordings.specs.Members.{place_in_ring, sector_at}
use Rattle.law_decoded_rings.specs.Written.{IsReadBy, IsReadWithin, WrittenTrack}
use Rattle.track_rings.specs.Rings.{bytes_of, last_in}
use Rattle.sector_images.specs.Formats.{row}
use Rattle.sector_images.specs.Places.{tracks}
use Rattle.sector_images.specs.declared.format.Format.{Format}
use Rattle.flux_engine.specs.Recordings.{sectors_of, track_at}
use Rattle.flux_engine.specs.Rings.{IsImage, ring_of, track_bytes}
use Rattle.phase_loop.specs.Pieces.{Piece}

-- track number k as it is written of an image
abbrev pub written_track : Format → List ℕ → ℕ → WrittenTrack
written_track format image k = record {
  ring = ring_of format image k;
  begin_of = place_in_ring format (track_at format k);
  frame_cells = frame_cells format;
  first = (sectors_of format (track_at format k)).first;
  sectors = (sectors_of format (track_at format k)).count;
  bytes_of = bytes_of (row format).first_sector (row format).sector_size
      (track_bytes format (track_at format k) image);
}

-- the part of the repeated ring that a piece's transitions carry, from its first place to its last
abbrev pub ring_piece : Piece → RingPiece
ring_piece piece =
    record { from = slice_index piece.places 0; count = last_in piece.places - slice_index piece.places 0 + 1 }

-- each track that is written of an image is read as its own: what stands depends on its own cells
-- alone, and nothing but the ring's own sectors stands in it
abbrev pub TracksAreOwn : Type 0
TracksAreOwn =
    (format : Format) (image : List ℕ) (k : ℕ) → IsImage format image → k < length (tracks format)
    → IsReadBy (sector_at format (track_at format k)) (written_track format image k)

-- so it is read as controllers read, who ask for no unbroken frame: 31 zeros are what the
-- clock leaves where it starts anew
abbrev pub RewrittenTracksAreOwn : Type 0
RewrittenTracksAreOwn =
    (format : Format) (image : List ℕ) (k : ℕ) → IsImage format image → k < length (tracks format)
    → IsReadWithin START_ZEROS
    (SectorStandsBy (header_at (as_controllers_read format) (track_at format k))
    (data_at (as_controllers_read format))) (written_track format image k)

-- Streams that capture a ring: what a drive within the bounds of
-- disturbance gives of a written track.
use Rattle.std.specs.Prelude.{◌≡◌, ◌≤◌, ◌<◌, ℕ, ◌+◌, ◌*◌, ◌/◌, Bool, List, [], ◌∷◌, length}
use Rattle.std.specs.Prelude.{slice_index, None}
use Rattle.flux_base.specs.declared.track.TrackId.{TrackId}
use Rattle.index_turns.specs.Track.{turn_length}
use Rattle.kryo_stream.specs.Stream.{first_fault, indexes, stream_length, times}
use Rattle.phase_loop.specs.Carried.{AreClose, Carried, KeepsSpeed, OFF_START}
use Rattle.phase_loop.specs.Pieces.{CarryPieces, EachKeepsSpeed, Piece, cells_between}
use Rattle.phase_loop.specs.Pieces.{cells_of_pieces}
use Rattle.phase_loop.specs.Start.{FINE_PER_TICK}
use Rattle.sector_images.specs.Formats.{zone}
use Rattle.sector_images.specs.Places.{IsTrack, tracks}
use Rattle.sector_images.specs.declared.format.Format.{Format}
use Rattle.track_rings.specs.Rings.{IsSpaced, last_in, stretch}
use Rattle.flux_engine.specs.Recordings.{cells_by, cells_of, track_at}
use Rattle.turn_merge.specs.declared.clock.Clock.{Clock}
use Rattle.flux_engine.specs.Rings.{IsImage, IsRing, nominal_of, ring_cells_of, ring_of}
use Rattle.flux_engine.specs.Rings.{track_stream}

-- the mean cell of the first turn in fine units, where a ring of so many cells turns
abbrev pub mean_cell : List ℕ → ℕ → ℕ
mean_cell indexes ring_cells = FINE_PER_TICK * turn_length indexes 1 / ring_cells

-- The bytes are one stream without a fault. Its transitions carry the ring over two turns or more,
-- and the first turn tells how fast it begins.
pub record Capture (x : List ℕ) (ring : List Bool) (nominal : ℕ) : Type 0 where
  pub no_fault : first_fault x ≡ None
  pub whole : stream_length x ≡ length x
  pub places : List ℕ
  pub periods : List ℕ
  pub carried : Carried (times x) ring nominal places periods
  pub two_turns : slice_index places 0 + 2 * length ring ≤ last_in places
  pub start : AreClose OFF_START nominal (mean_cell (indexes x) (length ring))
      (slice_index periods 0)

-- The bytes are one stream without a fault. Its transitions carry the ring in pieces, each
-- of which begins about as fast as the first turn tells: what a drive gives of a written
-- track that is erased in parts.
pub record ErasedCapture (x : List ℕ) (ring : List Bool) (nominal : ℕ) : Type 0 where
  pub no_fault : first_fault x ≡ None
  pub whole : stream_length x ≡ length x
  pub first : Piece
  pub later : List Piece
  pub carried : CarryPieces nominal (mean_cell (indexes x) (length ring)) ring (times x) first later

-- the drive of a capture keeps the speed that the first turn tells
abbrev pub IsSteady : (x : List ℕ) (ring : List Bool) (nominal : ℕ) → Capture x ring nominal
    → Type 0
IsSteady x ring nominal capture =
    KeepsSpeed nominal (mean_cell (indexes x) (length ring)) capture.periods

-- and in each piece of one that is erased in parts
abbrev pub IsSteadyErased : (x : List ℕ) (ring : List Bool) (nominal : ℕ)
    → ErasedCapture x ring nominal → Type 0
IsSteadyErased x ring nominal capture =
    EachKeepsSpeed nominal (mean_cell (indexes x) (length ring)) (capture.first ∷ capture.later)

-- the recovered cells of a track's stream
abbrev pub cells_of_stream : Format → TrackId → List ℕ → List Bool
cells_of_stream format track x = cells_of format track (times x) (indexes x)

-- The cells that are recovered from a capture of a track's ring, whatever ring it is: the ring's
-- from the first place to the last.
abbrev pub CapturesAreRecovered : Type 0
CapturesAreRecovered = (format : Format) (track : TrackId) (x : List ℕ) (ring : List Bool)
    → IsTrack format track → IsRing (zone format track.cylinder).ring_cells ring
    → (capture : Capture x ring (zone format track.cylinder).nominal)
    → cells_of_stream format track x
    ≡ cells_between ring (slice_index capture.places 0) (last_in capture.places)

-- and from a capture of a ring that is erased in parts: those of the pieces, with zeros between two
abbrev pub ErasedCapturesAreRecovered : Type 0
ErasedCapturesAreRecovered = (format : Format) (track : TrackId) (x : List ℕ) (ring : List Bool)
    → IsTrack format track → IsRing (zone format track.cylinder).ring_cells ring
    → (capture : ErasedCapture x ring (zone format track.cylinder).nominal)
    → cells_of_stream format track x ≡ cells_of_pieces ring capture.first capture.later

-- Where the drive keeps its speed, either clock recovers these cells.
abbrev pub SteadyCapturesAreRecovered : Type 0
SteadyCapturesAreRecovered =
    (clock : Clock) (format : Format) (track : TrackId) (x : List ℕ) (ring : List Bool)
    → IsTrack format track → IsRing (zone format track.cylinder).ring_cells ring
    → (capture : Capture x ring (zone format track.cylinder).nominal)
    → IsSteady x ring (zone format track.cylinder).nominal capture
    → cells_by clock format track (times x) (indexes x)
    ≡ cells_between ring (slice_index capture.places 0) (last_in capture.places)

abbrev pub SteadyErasedCapturesAreRecovered : Type 0
SteadyErasedCapturesAreRecovered =
    (clock : Clock) (format : Format) (track : TrackId) (x : List ℕ) (ring : List Bool)
    → IsTrack format track → IsRing (zone format track.cylinder).ring_cells ring
    → (capture : ErasedCapture x ring (zone format track.cylinder).nominal)
    → IsSteadyErased x ring (zone format track.cylinder).nominal capture
    → cells_by clock format track (times x) (indexes x)
    ≡ cells_of_pieces ring capture.first capture.later

-- a capture is one of a ring of which nothing is erased: one piece carries it, at the same places
abbrev pub CapturesAreErasedCaptures : Type 0
CapturesAreErasedCaptures = (x : List ℕ) (ring : List Bool) (nominal : ℕ) → IsSpaced 1 4 ring
    → (capture : Capture x ring nominal)
    → (erased : ErasedCapture x ring nominal) × (erased.later ≡ [])
    × (erased.first.places ≡ capture.places)

-- The cells that are recovered from what is written of a track of an image: the track's
-- ring, over two turns or more.
abbrev pub WrittenRingsAreRecovered : Type 0
WrittenRingsAreRecovered =
    (format : Format) (image : List ℕ) (k : ℕ) → IsImage format image → k < length (tracks format)
    → (from count : ℕ) × (2 * ring_cells_of format k ≤ count)
    × (cells_of_stream format (track_at format k) (track_stream format image k)
    ≡ stretch (ring_of format image k) from count)

-- each track of an image has a ring, with the format's cells
abbrev pub ImagesHaveRings : Type 0
ImagesHaveRings =
    (format : Format) (image : List ℕ) (k : ℕ) → IsImage format image → k < length (tracks format)
    → IsRing (ring_cells_of format k) (ring_of format image k)

-- the stream that is written of each track of an image is a capture of the track's ring
abbrev pub WritesCaptures : Type 0
WritesCaptures =
    (format : Format) (image : List ℕ) (k : ℕ) → IsImage format image → k < length (tracks format)
    → Capture (track_stream format image k) (ring_of format image k) (nominal_of format k)

-- and it is one of a drive that keeps its speed
abbrev pub WritesSteadyCaptures : Type 0
WritesSteadyCaptures =
    (format : Format) (image : List ℕ) (k : ℕ) → IsImage format image → k < length (tracks format)
    → (capture : Capture (track_stream format image k) (ring_of format image k)
    (nominal_of format k))
    × IsSteady (track_stream format image k) (ring_of format image k) (nominal_of format k) capture

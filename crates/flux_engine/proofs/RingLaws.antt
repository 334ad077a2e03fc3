-- The ring of each format's tracks, and the bytes in its sectors.
use Rattle.std.specs.Prelude.{◌≡◌, ◌<◌, ◌≤◌, ℕ, zero, suc, ◌+◌, ◌-◌, ◌*◌, All, Bool, List, [], ◌++◌, length, take, drop, flat_map, get_or, map, slice_get, ◌∷◌, Some, Result, Ok, Err, OnOk, refl}
use Rattle.std.specs.List.{range_with_len}
use Rattle.std.proofs.Common.{arith, ap, sym, subst, ◌∙◌, inl, inr, length-append, length-drop}
use Rattle.std.proofs.lemmas.Bool.{cases_lt}
use Rattle.std.proofs.lemmas.List.{length-take-le}
use Rattle.std.proofs.lemmas.List.Elements.{All-append, All-drop, All-get_or, All-take}
use Rattle.cell_bits.specs.State.{CellsState, room}
use Rattle.disk_recordings.specs.Laws.{RingsHaveCells}
use Rattle.disk_recordings.specs.Members.{ring_at}
use Rattle.disk_recordings.specs.Recordings.{DiskRecording, recording_of}
use Rattle.disk_recordings.specs.contracts.meaning.DiskRecordingMeaning.TheImpl.{ghosts}
use Rattle.disk_recordings.specs.declared.disk_id.DiskId.{DiskId}
use Rattle.flux_base.specs.declared.outside.Memory.{Memory}
use Rattle.flux_base.specs.declared.track.TrackId.{TrackId}
use Rattle.flux_writer.specs.Reading.{MOST_RING_CELLS, HasEarlyOne, IsStreamOf}
use Rattle.flux_writer.specs.Written.{cell_time, ones_of, stream_of, track_cells, track_turns}
use Rattle.track_rings.specs.Rings.{AreSectors}
use Rattle.sector_images.specs.Formats.{row, zone}
use Rattle.sector_images.specs.Places.{IsTrack, NumbersNameTracks, SectorsLieInImages, TracksKeepBounds, sector_place, tracks}
use Rattle.sector_images.specs.declared.format.Format.{Format}
use Rattle.flux_engine.specs.Captures.{ImagesHaveRings, WritesCaptures, WritesSteadyCaptures}
use Rattle.flux_engine.specs.Recordings.{sectors_of, track_at}
use Rattle.flux_engine.specs.Rings.{IsImage, IsRing, disk_id, nominal_of, ring_cells_of, ring_of, ring_with, HasRoomForRings, track_stream, sector_bytes, track_bytes}
use Rattle.disk_recordings.specs.declared.sectors.Sectors.{Sectors}
use Rattle.flux_engine.proofs.Captured.{steady_captures}
use Rattle.flux_engine.specs.lemmas.Pieces.{pieces-more}
use Rattle.flux_engine.specs.lemmas.Repeated.{early_one}
use Rattle.flux_engine.specs.lemmas.TrackAt.{is_track_at}

-- the ring of a format's track
pub is_ring : RingsHaveCells → (format : Format) (track : TrackId) (image : List ℕ) → IsTrack format track
    → AreSectors (sectors_of format track).count (sectors_of format track).size (track_bytes format track image)
    → IsRing (zone format track.cylinder).ring_cells (ring_with format track image)
is_ring have format track image known sectors =
    let ring = have format (disk_id format image) track (track_bytes format track image) known sectors in
    record { cells_are = ring.0; spaced = ring.1 }

-- bytes of so many pieces of the same size
module _ (piece : ℕ → List ℕ) (size : ℕ) where
  pieces_size : (first count : ℕ) → ((k : ℕ) → first ≤ k → k < first + count → length (piece k) ≡ size)
      → length (flat_map piece (range_with_len first count)) ≡ count * size
  pieces_size first zero each = omega arith
  pieces_size first (suc count) each =
      let here = each first (omega arith) (omega arith) in
      let rest = pieces_size (first + 1) count (λ k above below. each k (omega (arith, above)) (omega (arith, below))) in
      let both = length-append (piece first) (flat_map piece (range_with_len (first + 1) count)) in
      omega (arith, here, rest, both)

  pieces_fit : (first count : ℕ) → ((k : ℕ) → All (λ byte. byte < 256) (piece k)) → All (λ byte. byte < 256) (flat_map piece (range_with_len first count))
  pieces_fit first zero each = λ k d within. absurd (omega (arith, within))
  pieces_fit first (suc count) each =
      All-append (λ byte. byte < 256) (piece first) (flat_map piece (range_with_len (first + 1) count)) (each first) (pieces_fit (first + 1) count each)

-- each of a list of bytes is one, and so is what stands after them
pub bytes_fit : (bytes : List ℕ) → All (λ byte. byte < 256) bytes → (k : ℕ) → get_or bytes k 0 < 256
bytes_fit bytes all k =
    elim (cases_lt k (length bytes)) [
      | inl within ↦ All-get_or (λ byte. byte < 256) bytes k 0 within all
      | inr past ↦ subst (λ (byte : ℕ). byte < 256) (sym (get_or-past bytes k past)) (omega arith)
    ]
  where
    get_or-past : (xs : List ℕ) (k : ℕ) → length xs ≤ k → get_or xs k 0 ≡ 0
    get_or-past [] k past = refl
    get_or-past (x ∷ xs) zero past = absurd (omega (arith, past))
    get_or-past (x ∷ xs) (suc k) past = get_or-past xs k (omega (arith, past))

-- the bytes of an image's sectors are bytes
pub sectors_fit : (format : Format) (track : TrackId) (image : List ℕ) → All (λ byte. byte < 256) image → (k : ℕ) → get_or (track_bytes format track image) k 0 < 256
unfolding track_bytes
sectors_fit format track image fit =
    bytes_fit (track_bytes format track image)
    (pieces_fit (sector_bytes format track image) (row format).sector_size (row format).first_sector (zone format track.cylinder).sectors
    (λ sector. All-take (λ byte. byte < 256) (row format).sector_size (drop (sector_place format track sector) image)
    (All-drop (λ byte. byte < 256) (sector_place format track sector) image fit)))

-- the bytes of one sector more
pub sectors_more : (format : Format) (track : TrackId) (image : List ℕ) (sectors : Sectors) (index place size : ℕ) → sectors ≡ sectors_of format track
    → place ≡ sector_place format track (sectors.first + index) → size ≡ sectors.size
    → flat_map (sector_bytes format track image) (range_with_len sectors.first index) ++ take (place + size - place) (drop place image)
    ≡ flat_map (sector_bytes format track image) (range_with_len sectors.first (index + 1))
sectors_more format track image sectors index place size is at size_is =
    let before : List ℕ = flat_map (sector_bytes format track image) (range_with_len sectors.first index) in
    let count : place + size - place ≡ (row format).sector_size = (let e : place + size - place ≡ size = omega arith in e) ∙ size_is ∙ ap (λ (s : Sectors). s.size) is in
    ap (λ (n : ℕ). before ++ take n (drop place image)) count
    ∙ ap (λ (n : ℕ). before ++ take (row format).sector_size (drop n image)) at
    ∙ sym (pieces-more (sector_bytes format track image) sectors.first index)

-- so many bytes from a place on
pub slice_size : (image : List ℕ) (place size : ℕ) → place + size ≤ length image → length (take (place + size - place) (drop place image)) ≡ size
slice_size image place size inside =
    let count : place + size - place ≡ size = omega arith in
    length-take-le (place + size - place) (drop place image) (omega (arith, length-drop place image, inside)) ∙ count

-- the bytes that an image has at a sector's place are a sector's
pub sector_size : (format : Format) (track : TrackId) (image : List ℕ) (sector : ℕ) → length image ≡ (row format).image_size
    → sector_place format track sector + (row format).sector_size ≤ (row format).image_size
    → length (sector_bytes format track image sector) ≡ (row format).sector_size
sector_size format track image sector size inside =
    length-take-le (row format).sector_size (drop (sector_place format track sector) image)
    (omega (arith, length-drop (sector_place format track sector) image, size, inside))

pub are_sectors : SectorsLieInImages → (format : Format) (track : TrackId) (image : List ℕ) → IsImage format image → IsTrack format track
    → AreSectors (sectors_of format track).count (sectors_of format track).size (track_bytes format track image)
unfolding track_bytes
are_sectors lie format track image is known = record {
  whole = pieces_size (sector_bytes format track image) (row format).sector_size (row format).first_sector (zone format track.cylinder).sectors
      (λ sector above below. sector_size format track image sector is.size (lie format track sector known (above, below)));
  fit = sectors_fit format track image is.fit;
}

-- a ring of a track has a one in its first quarter
pub is_early : TracksKeepBounds → (format : Format) (track : TrackId) → IsTrack format track → (ring : List Bool) → IsRing (zone format track.cylinder).ring_cells ring → HasEarlyOne ring
is_early keep format track known ring is =
    let bounds = keep format track known in
    early_one ring is.spaced (omega (arith, is.cells_are, bounds.shortest_ring))

-- room for each ring is room for that of a number
pub room_for : (format : Format) (number : ℕ) (track : TrackId) (old now : CellsState) → slice_get (tracks format) number ≡ Some track → IsTrack format track
    → HasRoomForRings format old → room old ≤ room now → ring_cells_of format number ≤ room now
room_for format number track old now at known roomy grown =
    let here : (zone format track.cylinder).ring_cells ≤ room now = omega (arith, roomy track known, grown) in
    subst (λ (t : TrackId). (zone format t.cylinder).ring_cells ≤ room now) (sym (is_track_at format number track at)) here

-- the stream of a ring that was made for the track of a number
pub is_stream : (format : Format) (image : List ℕ) (number : ℕ) (track : TrackId) (ring : List Bool) (nominal : ℕ) → slice_get (tracks format) number ≡ Some track
    → ring ≡ ring_of format image number → nominal ≡ (zone format track.cylinder).nominal → stream_of ring nominal ≡ track_stream format image (0 + number)
is_stream format image number track ring nominal at made cell =
    let here : number ≡ 0 + number = omega arith in
    ap (λ (r : List Bool). stream_of r nominal) made ∙ ap (stream_of (ring_of format image number)) cell
    ∙ ap (λ (t : TrackId). stream_of (ring_of format image number) (zone format t.cylinder).nominal) (sym (is_track_at format number track at))
    ∙ ap (track_stream format image) here

-- the cells that a format's recording made, with an image's bytes, are the ring of the track
pub is_made : (format : Format) (track : TrackId) (image bytes : List ℕ) (id : DiskId) (recording : DiskRecording) (result : Result (Unit {0}) Memory) (cells : List Bool)
    → recording ≡ recording_of format id → id ≡ disk_id format image → bytes ≡ track_bytes format track image
    → OnOk result (cells ≡ ghosts.ring recording track bytes) → OnOk result (cells ≡ ring_with format track image)
is_made format track image bytes id recording result cells is same bytes_are made =
    let ring : ghosts.ring recording track bytes ≡ ring_with format track image =
    ap (λ (r : DiskRecording). ghosts.ring r track bytes) (is ∙ ap (recording_of format) same) ∙ ap (ring_at format (disk_id format image) track) bytes_are in
    subst (λ (r : List Bool). OnOk result (cells ≡ r)) ring made

pub is_ring_of : (format : Format) (number : ℕ) (track : TrackId) (image : List ℕ) (result : Result (Unit {0}) Memory) (cells : List Bool)
    → slice_get (tracks format) number ≡ Some track → OnOk result (cells ≡ ring_with format track image) → OnOk result (cells ≡ ring_of format image number)
is_ring_of format number track image result cells at made =
    subst (λ (t : TrackId). OnOk result (cells ≡ ring_with format t image)) (sym (is_track_at format number track at)) made

-- the cells that were made are a ring
pub made_ring : RingsHaveCells → (format : Format) (number : ℕ) (track : TrackId) (image bytes : List ℕ) (result : Result (Unit {0}) Memory) (cells : List Bool)
    → slice_get (tracks format) number ≡ Some track → IsTrack format track → bytes ≡ track_bytes format track image
    → AreSectors (sectors_of format track).count (sectors_of format track).size bytes
    → OnOk result (cells ≡ ring_with format track image) → OnOk result (IsRing (ring_cells_of format number) cells)
made_ring have format number track image bytes (Err why) cells at known is sectors made = tt
made_ring have format number track image bytes (Ok u) cells at known is sectors made =
    let whole : AreSectors (sectors_of format track).count (sectors_of format track).size (track_bytes format track image) =
    subst (AreSectors (sectors_of format track).count (sectors_of format track).size) is sectors in
    let ring : IsRing (zone format track.cylinder).ring_cells cells =
    subst (IsRing (zone format track.cylinder).ring_cells) (sym made) (is_ring have format track image known whole) in
    subst (λ (t : TrackId). IsRing (zone format t.cylinder).ring_cells cells) (sym (is_track_at format number track at)) ring

-- what the writer promises of a ring's stream
abbrev pub RingsAreRead : Type 0
RingsAreRead = (ring : List Bool) (nominal : ℕ) → 1024 ≤ nominal → nominal ≤ 131072 → length ring ≤ MOST_RING_CELLS → HasEarlyOne ring
    → IsStreamOf (stream_of ring nominal) (map (cell_time nominal) (ones_of (track_cells ring))) (map (cell_time nominal) (track_turns ring))

pub track_known : NumbersNameTracks → (format : Format) (k : ℕ) → k < length (tracks format) → IsTrack format (track_at format k)
track_known names format k below =
    let named = names format k below in
    subst (IsTrack format) (sym (is_track_at format k named.0 named.1)) named.2

pub writes_steady_captures : RingsHaveCells → TracksKeepBounds → NumbersNameTracks → SectorsLieInImages → RingsAreRead → WritesSteadyCaptures
writes_steady_captures have keep names lie reads format image k is below =
    let track : TrackId = track_at format k in
    let known : IsTrack format track = track_known names format k below in
    let ring : IsRing (zone format track.cylinder).ring_cells (ring_with format track image) =
    is_ring have format track image known (are_sectors lie format track image is known) in
    let bounds = keep format track known in
    let early : HasEarlyOne (ring_with format track image) = is_early keep format track known (ring_with format track image) ring in
    steady_captures (ring_with format track image) (nominal_of format k) early (omega (arith, ring.cells_are, bounds.shortest_ring)) bounds.shortest_cell
    (reads (ring_with format track image) (nominal_of format k) (omega (arith, bounds.shortest_cell)) bounds.longest_cell
    (omega (arith, ring.cells_are, bounds.longest_ring)) early)

pub writes_captures : RingsHaveCells → TracksKeepBounds → NumbersNameTracks → SectorsLieInImages → RingsAreRead → WritesCaptures
writes_captures have keep names lie reads format image k is below = (writes_steady_captures have keep names lie reads format image k is below).0

pub images_have_rings : RingsHaveCells → NumbersNameTracks → SectorsLieInImages → ImagesHaveRings
images_have_rings have names lie format image k is below =
    let known = track_known names format k below in
    is_ring have format (track_at format k) image known (are_sectors lie format (track_at format k) image is known)

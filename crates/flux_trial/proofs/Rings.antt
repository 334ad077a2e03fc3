-- The rings of a trial's tracks, and the streams that its drive gives of them.
use Rattle.std.proofs.Common.{◌≡◌, ◌≤◌, ◌<◌, ◌+◌, ◌*◌, ◌/◌, ℕ, Bool, List, length, get_or, sym, subst, arith}
use Rattle.std.specs.Prelude.{map, slice_get, Some}
use Rattle.std.specs.List.{range_with_len}
use Rattle.std.proofs.lemmas.List.FromFn.{get_or-map-range_with_len, length-map-range_with_len}
use Rattle.std.proofs.Math.Nat.{mod-lt}
use Rattle.cell_bits.specs.State.{CellsState, room}
use Rattle.flux_base.specs.declared.track.TrackId.{TrackId}
use Rattle.flux_engine.specs.Captures.{ImagesHaveRings}
use Rattle.flux_engine.specs.Recordings.{track_at}
use Rattle.flux_engine.specs.Rings.{HasRoomForRings, IsImage, IsRing, ring_cells_of}
use Rattle.flux_engine.specs.lemmas.TrackAt.{is_track_at}
use Rattle.kryo_stream.specs.Sequence.{IsStreamOf}
use Rattle.sector_images.specs.Formats.{row, zone}
use Rattle.sector_images.specs.Places.{ImagesAreSmall, IsTrack, NumbersNameTracks, TracksKeepBounds, tracks}
use Rattle.sector_images.specs.declared.format.Format.{Format}
use Rattle.flux_trial.specs.Image.{image_byte, trial_image}
use Rattle.flux_trial.specs.Times.{IsTrialRing, trial_indexes, trial_times}
use Rattle.flux_trial.specs.Tracks.{drive_at, trial_ring, trial_stream}
use Rattle.flux_trial.proofs.Sound.{IsUsual}
use Rattle.flux_trial.proofs.Streams.{WrittenIsRead, WrittenIsShort, stream-read}

pub is_trial_ring : TracksKeepBounds → (format : Format) (k : ℕ) (ring : List Bool) → IsTrack format (track_at format k) → IsRing (ring_cells_of format k) ring → IsTrialRing ring
is_trial_ring keep format k ring known is =
    let bounds = keep format (track_at format k) known in record {
      spaced = is.spaced;
      least = omega (arith, is.cells_are, bounds.shortest_ring);
      most = omega (arith, is.cells_are, bounds.longest_ring);
    }

pub room_for : (format : Format) (number : ℕ) (track : TrackId) (cells : CellsState) → slice_get (tracks format) number ≡ Some track → IsTrack format track
    → HasRoomForRings format cells → ring_cells_of format number ≤ room cells
room_for format number track cells at known roomy =
    subst (λ (t : TrackId). (zone format t.cylinder).ring_cells ≤ room cells) (sym (is_track_at format number track at)) (roomy track known)

pub is_usual : TracksKeepBounds → (format : Format) (seed k : ℕ) → IsTrack format (track_at format k) → IsUsual (drive_at format seed k)
is_usual keep format seed k known =
    let bounds = keep format (track_at format k) known in
    record { least = bounds.shortest_cell; most = bounds.longest_cell }

-- the trial's image is one
pub is_image : (format : Format) (seed : ℕ) → IsImage format (trial_image format seed)
unfolding trial_image
is_image format seed = record {
  size = length-map-range_with_len (image_byte seed) 0 (row format).image_size;
  fit = λ k d within.
      let count : ℕ = (row format).image_size in
      let below : k < count = omega (arith, within, length-map-range_with_len (image_byte seed) 0 count) in
      let is : get_or (map (image_byte seed) (range_with_len 0 count)) k d ≡ image_byte seed k =
      get_or-map-range_with_len (image_byte seed) 0 count k k d below (omega arith) in
      let small : image_byte seed k < 256 = mod-lt (seed + 167 * k + 13 * (k / 256)) {m = 256} (omega arith) in
      omega (arith, is, small);
}

-- the laws of the crates below
pub record Laws : Type 0 where
  pub read : WrittenIsRead
  pub short : WrittenIsShort
  pub keep : TracksKeepBounds
  pub small : ImagesAreSmall
  pub names : NumbersNameTracks
  pub rings : ImagesHaveRings

pub track_known : NumbersNameTracks → (format : Format) (k : ℕ) → k < length (tracks format) → IsTrack format (track_at format k)
track_known names format k below =
    let named = names format k below in
    subst (IsTrack format) (sym (is_track_at format k named.0 named.1)) named.2

-- the stream of each track is one stream without a fault
pub is_stream : Laws → (format : Format) (seed k : ℕ) → k < length (tracks format)
    → IsStreamOf (trial_stream format seed k) (trial_times (drive_at format seed k) (trial_ring format seed k)) (trial_indexes (drive_at format seed k) (trial_ring format seed k))
unfolding trial_stream
is_stream laws format seed k below =
    let known = track_known laws.names format k below in
    let ring = is_trial_ring laws.keep format k (trial_ring format seed k) known (laws.rings format (trial_image format seed) k (is_image format seed) below) in
    stream-read (drive_at format seed k) (trial_ring format seed k) (is_usual laws.keep format seed k known) ring laws.read laws.short

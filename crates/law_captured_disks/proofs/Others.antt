-- No other stands in the recovered cells of a captured track.
use Rattle.std.specs.Prelude.{◌<◌, ℕ, ◌+◌, ◌-◌, Bool, List, [], length, map, slice_index, unwrap_or, Option}
use Rattle.std.proofs.Common.{ap, append-nil, sym, subst}
use Rattle.flux_base.specs.declared.track.TrackId.{TrackId}
use Rattle.disk_recordings.specs.Laws.{AreTrackBytes, NoOtherStands}
use Rattle.disk_recordings.specs.Members.{as_controllers_read, header_at, named_at, ring_at}
use Rattle.disk_recordings.specs.declared.disk_id.DiskId.{DiskId}
use Rattle.flux_engine.specs.Captures.{CapturesAreRecovered, ErasedCapturesAreRecovered, ImagesHaveRings, SteadyCapturesAreRecovered, SteadyErasedCapturesAreRecovered}
use Rattle.flux_engine.specs.Recordings.{track_at}
use Rattle.flux_engine.specs.Rings.{IsImage, disk_id, ring_of, track_bytes}
use Rattle.frame_law.specs.Others.{HasNoOther, HasNoOtherBetweenZeros}
use Rattle.law_captured_disks.specs.Frames.{ring_piece}
use Rattle.law_captured_disks.specs.Others.{CapturesHaveNoOthers}
use Rattle.law_captured_disks.specs.lemmas.Cells.{cells-same}
use Rattle.law_captured_disks.specs.lemmas.TrackBytes.{are_sectors}
use Rattle.law_decoded_rings.specs.Pieces.{RingPiece, cells_of_ring_pieces}
use Rattle.phase_loop.specs.Pieces.{Piece, cells_between, cells_of_pieces}
use Rattle.sector_images.specs.Places.{IsTrack, NumbersNameTracks, SectorsLieInImages, tracks}
use Rattle.sector_images.specs.declared.format.Format.{Format}
use Rattle.sector_images.specs.declared.format.Format.TheVariants.{AppleDo, AppleDos33, ApplePo, AppleProdos}
use Rattle.track_rings.specs.Rings.{last_in}

-- what the crates below promise
pub record Laws : Type 0 where
  pub names : NumbersNameTracks
  pub lie : SectorsLieInImages
  pub rings : ImagesHaveRings
  pub no_other : NoOtherStands
  pub pieces : (format : Format) (track : TrackId) (ring : List Bool)
      → ((zeros from count behind : ℕ) → HasNoOtherBetweenZeros (named_at format) (header_at format track) ring zeros from count behind)
      → (first : RingPiece) (later : List RingPiece) → HasNoOther (named_at format) (header_at format track) (cells_of_ring_pieces ring first later)
  pub captures : CapturesAreRecovered
  pub erased : ErasedCapturesAreRecovered
  pub steady : SteadyCapturesAreRecovered
  pub steady_erased : SteadyErasedCapturesAreRecovered

-- an Apple disk's ring is the same as controllers read it
none_between_zeros : NoOtherStands → (format : Format) (id : DiskId) (track : TrackId) (bytes : List ℕ) (zeros from count behind : ℕ) → IsTrack format track
    → AreTrackBytes format track bytes
    → HasNoOtherBetweenZeros (named_at (as_controllers_read format)) (header_at (as_controllers_read format) track) (ring_at format id track bytes) zeros from count behind
none_between_zeros none AppleDo id track bytes zeros from count behind known are = none AppleDos33 id track bytes zeros from count behind known are
none_between_zeros none ApplePo id track bytes zeros from count behind known are = none AppleProdos id track bytes zeros from count behind known are
none_between_zeros none format id track bytes zeros from count behind known are = none format id track bytes zeros from count behind known are

module _ (laws : Laws) (format : Format) (image : List ℕ) (k : ℕ) (is : IsImage format image) (below : k < length (tracks format)) where
  abbrev ring : List Bool
  ring = ring_of format image k

  abbrev None : List Bool → Type 0
  None cells = HasNoOther (named_at (as_controllers_read format)) (header_at (as_controllers_read format) (track_at format k)) cells

  known : IsTrack format (track_at format k)
  known =
      let named = laws.names format k below in
      subst (IsTrack format) (sym (ap (λ (t : Option TrackId). unwrap_or t (record { cylinder = 0; head = 0 })) named.1)) named.2

  none_in_pieces : (first : RingPiece) (later : List RingPiece) → None (cells_of_ring_pieces ring first later)
  none_in_pieces first later =
      let track : TrackId = track_at format k in
      laws.pieces (as_controllers_read format) track ring
      (λ zeros from count behind.
      none_between_zeros laws.no_other format (disk_id format image) track (track_bytes format track image) zeros from count behind known
      (are_sectors laws.lie format track image is known))
      first later

  none_between : (from to : ℕ) → None (cells_between ring from to)
  none_between from to =
      let one : RingPiece = record { from = from; count = to - from + 1 } in
      subst None (append-nil (cells_between ring from to)) (none_in_pieces one [])

  none_of_pieces : (first : Piece) (later : List Piece) → None (cells_of_pieces ring first later)
  none_of_pieces first later =
      subst None (sym (cells-same ring first later)) (none_in_pieces (ring_piece first) (map ring_piece later))

pub no_others : Laws → CapturesHaveNoOthers
no_others laws = record {
  whole = λ format image x k is below capture.
      subst (None laws format image k is below) (sym (laws.captures format (track_at format k) x (ring_of format image k) (known laws format image k is below) (laws.rings format image k is below) capture))
      (none_between laws format image k is below (slice_index capture.places 0) (last_in capture.places));
  erased = λ format image x k is below capture.
      subst (None laws format image k is below) (sym (laws.erased format (track_at format k) x (ring_of format image k) (known laws format image k is below) (laws.rings format image k is below) capture))
      (none_of_pieces laws format image k is below capture.first capture.later);
  steady = λ clock format image x k is below capture keeps.
      subst (None laws format image k is below) (sym (laws.steady clock format (track_at format k) x (ring_of format image k) (known laws format image k is below) (laws.rings format image k is below) capture keeps))
      (none_between laws format image k is below (slice_index capture.places 0) (last_in capture.places));
  steady_erased = λ clock format image x k is below capture keeps.
      subst (None laws format image k is below) (sym (laws.steady_erased clock format (track_at format k) x (ring_of format image k) (known laws format image k is below) (laws.rings format image k is below) capture keeps))
      (none_of_pieces laws format image k is below capture.first capture.later);
}

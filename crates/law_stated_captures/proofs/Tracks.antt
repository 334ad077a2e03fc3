-- For each track of each image there are streams at each bound.
use Rattle.std.specs.Prelude.{◌<◌, ℕ, List, length, unwrap_or, Option}
use Rattle.std.proofs.Common.{arith, ap, sym, subst}
use Rattle.flux_base.specs.declared.track.TrackId.{TrackId}
use Rattle.flux_engine.specs.Captures.{ImagesHaveRings}
use Rattle.flux_engine.specs.Recordings.{track_at}
use Rattle.flux_engine.specs.Rings.{IsImage, nominal_of, ring_of}
use Rattle.sector_images.specs.Places.{IsTrack, NumbersNameTracks, TracksKeepBounds, tracks}
use Rattle.sector_images.specs.declared.format.Format.{Format}
use Rattle.law_stated_captures.specs.Reached.{IsTurned, PiecesReachBounds, RingsReachBounds, TrackPiecesReachBounds, TracksReachBounds}
use Rattle.law_stated_captures.proofs.Ones.{one_from}

module _ (rings : ImagesHaveRings) (names : NumbersNameTracks) (keep : TracksKeepBounds) where
  is_track : (format : Format) (k : ℕ) → k < length (tracks format) → IsTrack format (track_at format k)
  is_track format k below =
      let named = names format k below in
      subst (IsTrack format) (sym (ap (λ (t : Option TrackId). unwrap_or t (record { cylinder = 0; head = 0 })) named.1)) named.2

  is_turned : (format : Format) (image : List ℕ) (k : ℕ) → IsImage format image → k < length (tracks format)
      → IsTurned (ring_of format image k) (nominal_of format k)
  is_turned format image k is below =
      let ring = rings format image k is below in
      let bounds = keep format (track_at format k) (is_track format k below) in
      let cells = ring.cells_are in
      let short = bounds.shortest_ring in
      let long = bounds.longest_ring in
      record {
        spaced = ring.spaced;
        shortest_ring = omega (arith, cells, short);
        longest_ring = omega (arith, cells, long);
        shortest_cell = bounds.shortest_cell;
        longest_cell = bounds.longest_cell;
      }

  pub tracks_reach : RingsReachBounds → TracksReachBounds
  tracks_reach reach format image k place speed mean index late is below fast early =
      let turned = is_turned format image k is below in
      let one = one_from (ring_of format image k) turned.spaced place in
      let made = reach (ring_of format image k) (nominal_of format k) one.0.place speed mean index late turned one.0.is fast early in
      (one.0.place, one.1, one.2, made.0, made.1)

  pub track_pieces_reach : PiecesReachBounds → TrackPiecesReachBounds
  track_pieces_reach reach format image k place many speed place' many' speed' mean index is below some some' few fast fast' early =
      let turned = is_turned format image k is below in
      let one = one_from (ring_of format image k) turned.spaced place in
      let two = one_from (ring_of format image k) turned.spaced place' in
      let made = reach (ring_of format image k) (nominal_of format k) one.0.place many speed two.0.place many' speed' mean index turned one.0.is two.0.is some some' few fast fast' early in
      (one.0.place, one.1, one.2, two.0.place, two.1, two.2, made.0, made.1)

-- Each sector's frame lies whole in its track's ring, which has some cells and not too many.
use Rattle.std.specs.Prelude.{◌<◌, ℕ, List, length, unwrap_or, Option}
use Rattle.std.proofs.Common.{arith, ap, sym, subst}
use Rattle.disk_recordings.specs.Laws.{AreTrackBytes, FramesAreWhole, FramesHaveCells}
use Rattle.flux_base.specs.declared.track.TrackId.{TrackId}
use Rattle.flux_engine.specs.Captures.{ImagesHaveRings}
use Rattle.flux_engine.specs.Recordings.{track_at}
use Rattle.flux_engine.specs.Rings.{disk_id, track_bytes}
use Rattle.law_captured_disks.specs.lemmas.TrackBytes.{are_sectors}
use Rattle.law_stated_disks.proofs.Late.{FramesFit}
use Rattle.sector_images.specs.Places.{IsTrack, NumbersNameTracks, SectorsLieInImages, TracksKeepBounds, tracks}
use Rattle.sector_images.specs.declared.format.Format.{Format}

module _ (names : NumbersNameTracks) (lie : SectorsLieInImages) (keep : TracksKeepBounds) (rings : ImagesHaveRings) (whole : FramesAreWhole) (cells : FramesHaveCells) where
  is_track : (format : Format) (n : ℕ) → n < length (tracks format) → IsTrack format (track_at format n)
  is_track format n below =
      let named = names format n below in
      subst (IsTrack format) (sym (ap (λ (t : Option TrackId). unwrap_or t (record { cylinder = 0; head = 0 })) named.1)) named.2

  pub frames_fit : FramesFit
  frames_fit = record {
    ring = λ format image n is below.
        let size = (rings format image n is below).cells_are in
        let bounds = keep format (track_at format n) (is_track format n below) in
        let short = bounds.shortest_ring in
        let long = bounds.longest_ring in
        (omega (arith, size, short), omega (arith, size, long));
    frame = λ format image n sector is below one.
        let track : TrackId = track_at format n in
        let known = is_track format n below in
        let bytes : List ℕ = track_bytes format track image in
        let are : AreTrackBytes format track bytes = are_sectors lie format track image is known in
        let size = (rings format image n is below).cells_are in
        let fits = (whole format (disk_id format image) track bytes sector known are one).0 in
        omega (arith, size, fits);
    some = cells;
  }

-- The track of a number, by what `track_id` says of it.
use Rattle.std.specs.Prelude.{◌≡◌, ℕ, slice_get, unwrap_or, Option, Some}
use Rattle.std.proofs.Common.{ap, subst, sym}
use Rattle.flux_base.specs.declared.track.TrackId.{TrackId}
use Rattle.sector_images.specs.Places.{IsTrack, tracks}
use Rattle.sector_images.specs.declared.format.Format.{Format}
use Rattle.flux_engine.specs.Recordings.{track_at}

module _ (format : Format) (number : ℕ) (track : TrackId)
    (at : slice_get (tracks format) number ≡ Some track) where
  pub is_track_at : track_at format number ≡ track
  is_track_at = ap (λ (o : Option TrackId). unwrap_or o (record { cylinder = 0; head = 0 })) at

  pub track_is : track ≡ track_at format number
  track_is = sym is_track_at

  pub is_known_at : IsTrack format track → IsTrack format (track_at format number)
  is_known_at known = subst (IsTrack format) track_is known

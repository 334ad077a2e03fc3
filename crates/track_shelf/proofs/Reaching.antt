-- Which tracks a drive reaches, one after another.
use Rattle.std.proofs.Common.{◌≡◌, ◌≤◌, ◌+◌, ◌&&◌, ℕ, Bool, true, false, length, take, get_or, Some, sym, ap, ◌∙◌}
use Rattle.std.specs.List.{list_all, slice_get}
use Rattle.std.proofs.lemmas.List.{take_all}
use Rattle.std.proofs.lemmas.List.Folds.{list_all_at, list_all_more}
use Rattle.std.proofs.lemmas.Option.{get_or_from_slice_get, slice_get_within}
use Rattle.flux_base.specs.declared.track.TrackId.{TrackId}
use Rattle.sector_images.specs.Places.{tracks}
use Rattle.sector_images.specs.declared.format.Format.{Format}
use Rattle.track_shelf.specs.Stepping.{reaches, reaches_all}
use Rattle.track_shelf.specs.declared.stepping.Stepping.{Stepping}

module _ (stepping : Stepping) (format : Format) (number : ℕ) where
  module _ (track : TrackId) (at : slice_get (tracks format) number ≡ Some track) (reached : Bool) (is : reached ≡ reaches stepping track) where
    pub reached-more : reached ≡ true → list_all (reaches stepping) (take number (tracks format)) ≡ true
        → list_all (reaches stepping) (take (number + 1) (tracks format)) ≡ true
    reached-more passed before =
        list_all_more (reaches stepping) (tracks format) number track (slice_get_within (tracks format) number track at)
        ∙ ap (λ b. b && reaches stepping (get_or (tracks format) number track)) before
        ∙ ap (reaches stepping) (get_or_from_slice_get (tracks format) number track track at) ∙ sym is ∙ passed

    pub not-reached : reached ≡ false → false ≡ reaches_all stepping format
    unfolding reaches_all
    not-reached failed =
        sym (list_all_at (reaches stepping) (tracks format) number track (slice_get_within (tracks format) number track at)
        (ap (reaches stepping) (get_or_from_slice_get (tracks format) number track track at) ∙ sym is ∙ failed))

  pub all-reached : length (tracks format) ≤ number → list_all (reaches stepping) (take number (tracks format)) ≡ true → true ≡ reaches_all stepping format
  unfolding reaches_all
  all-reached all before = sym (sym (ap (list_all (reaches stepping)) (take_all number (tracks format) all)) ∙ before)

-- Which dumps have files, one after another.
use Rattle.std.proofs.Common.{◌≡◌, ◌≤◌, ◌+◌, ◌||◌, ℕ, true, false, List, length, take, get_or, Some, sym, ap, ◌∙◌}
use Rattle.std.specs.List.{list_any, slice_get}
use Rattle.std.proofs.lemmas.List.{take_all}
use Rattle.std.proofs.lemmas.List.Folds.{list_any_at, list_any_more}
use Rattle.std.proofs.lemmas.Option.{get_or_from_slice_get, slice_get_within}
use Rattle.flux_base.specs.declared.track.TrackId.{TrackId}
use Rattle.sector_images.specs.Places.{tracks}
use Rattle.sector_images.specs.declared.format.Format.{Format}
use Rattle.track_shelf.specs.Files.{File}
use Rattle.track_shelf.specs.declared.stepping.Stepping.{Stepping}
use Rattle.dump_reading.specs.Outcomes.{has_any, has_file}

module _ (stepping : Stepping) (files : List File) (format : Format) (dump : List ℕ) (number : ℕ) where
  module _ (track : TrackId) (at : slice_get (tracks format) number ≡ Some track) where
    -- the next track has no file either
    pub none-more : has_file stepping files dump track ≡ false → list_any (has_file stepping files dump) (take number (tracks format)) ≡ false
        → list_any (has_file stepping files dump) (take (number + 1) (tracks format)) ≡ false
    none-more gone before =
        list_any_more (has_file stepping files dump) (tracks format) number track (slice_get_within (tracks format) number track at)
        ∙ ap (λ b. b || has_file stepping files dump (get_or (tracks format) number track)) before
        ∙ ap (has_file stepping files dump) (get_or_from_slice_get (tracks format) number track track at) ∙ gone

    -- this one has one
    pub one-found : has_file stepping files dump track ≡ true → true ≡ has_any stepping files format dump
    unfolding has_any
    one-found there =
        sym (list_any_at (has_file stepping files dump) (tracks format) number track (slice_get_within (tracks format) number track at)
        (ap (has_file stepping files dump) (get_or_from_slice_get (tracks format) number track track at) ∙ there))

  -- none has
  pub none-found : length (tracks format) ≤ number → list_any (has_file stepping files dump) (take number (tracks format)) ≡ false → false ≡ has_any stepping files format dump
  unfolding has_any
  none-found all before = sym (sym (ap (list_any (has_file stepping files dump)) (take_all number (tracks format) all)) ∙ before)

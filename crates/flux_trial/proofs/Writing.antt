-- What a drive gives of a ring can be written, and fits in a sink that keeps its bytes.
use Rattle.std.proofs.Common.{◌≡◌, ◌≤◌, ◌<◌, ◌+◌, ◌^◌, ◌++◌, ℕ, Bool, List, [], All, length, take, ap, sym, subst, ◌∙◌, arith}
use Rattle.std.proofs.lemmas.List.{length-take-le}
use Rattle.std.proofs.lemmas.List.Elements.{All-weaker}
use Rattle.flux_base.specs.Outside.{AppendsPart, Rose}
use Rattle.track_rings.specs.Rings.{last_in}
use Rattle.flux_writer.specs.Reading.{EndsWithTransition}
use Rattle.flux_writer.specs.Written.{stream_of_times}
use Rattle.std.specs.Prelude.{Some, slice_get}
use Rattle.flux_base.specs.declared.track.TrackId.{TrackId}
use Rattle.sector_images.specs.Formats.{zone}
use Rattle.sector_images.specs.Places.{IsTrack, TracksKeepBounds, tracks}
use Rattle.sector_images.specs.declared.format.Format.{Format}
use Rattle.flux_engine.specs.Rings.{IsRing, ring_cells_of}
use Rattle.flux_engine.specs.lemmas.TrackAt.{is_known_at}
use Rattle.flux_trial.specs.Drive.{Drive}
use Rattle.flux_trial.specs.Times.{IsTrialRing, trial_indexes, trial_times}
use Rattle.flux_trial.specs.inside.Keeping.{faults_of, ROOM}
use Rattle.flux_trial.proofs.Rings.{is_trial_ring}
use Rattle.flux_trial.proofs.Sound.{IsUsual, LATEST}
use Rattle.flux_trial.proofs.Streams.{WrittenIsShort, ends-with-transition, four_indexes, stream-short, times-few, times-small}
use Rattle.flux_trial.proofs.Trials.{never_rose, none_failed}

-- a track of a format's disks, its ring, and what the drive gives of it
module _ (keep : TracksKeepBounds) (format : Format) (seed number cell : ℕ) (track : TrackId) (at : slice_get (tracks format) number ≡ Some track)
    (known : IsTrack format track) (cell_is : cell ≡ (zone format track.cylinder).nominal) (ring : List Bool) (ring_is : IsRing (ring_cells_of format number) ring)
    (times indexes : List ℕ) (times_are : times ≡ trial_times (record { seed = seed; track = number; nominal = cell }) ring)
    (indexes_are : indexes ≡ trial_indexes (record { seed = seed; track = number; nominal = cell }) ring) where
  abbrev d : Drive
  d = record { seed = seed; track = number; nominal = cell }

  usual : IsUsual d
  usual = (let bounds = keep format track known in record { least = omega (arith, bounds.shortest_cell, cell_is); most = omega (arith, bounds.longest_cell, cell_is) })

  is : IsTrialRing ring
  is = is_trial_ring keep format number ring (is_known_at format number track at known) ring_is

  pub ends : EndsWithTransition times indexes
  ends =
      subst (λ (ts : List ℕ). EndsWithTransition ts indexes) (sym times_are)
      (subst (EndsWithTransition (trial_times d ring)) (sym indexes_are) (ends-with-transition d ring usual is))

  pub near : last_in indexes < last_in times + 2 ^ 32
  near = (let four = four_indexes d ring in omega (arith, ends (omega (arith, ap length indexes_are, four))))

  pub few : length times + length indexes ≤ 16777216
  few = omega (arith, ap length times_are, ap length indexes_are, times-few d ring usual is, four_indexes d ring)

  pub early : All (λ time. time ≤ 2 ^ 39) times
  early =
      All-weaker (λ time. time ≤ LATEST) (λ time. time ≤ 2 ^ 39) (λ time small. omega (arith, small)) times
      (subst (All (λ time. time ≤ LATEST)) (sym times_are) (times-small d ring usual is))

  pub short : WrittenIsShort → length (stream_of_times times indexes) < ROOM
  short law =
      subst (λ (ts : List ℕ). length (stream_of_times ts indexes) < ROOM) (sym times_are)
      (subst (λ (xs : List ℕ). length (stream_of_times (trial_times d ring) xs) < ROOM) (sym indexes_are) (stream-short d ring usual is law))

-- a sink that had room did not fail
pub never_full : (old stream kept : List ℕ) → old ≡ [] → length stream < ROOM → AppendsPart (Some old) (Some kept) stream → Rose (faults_of old) (faults_of kept) → ⊥
never_full old stream kept none short part rose =
    let cut = length-take-le part.0 stream (omega (arith, part.1)) in
    let size = ap length (part.2 ∙ ap (λ (l : List ℕ). l ++ take part.0 stream) none) in
    never_rose (faults_of kept) (none_failed kept (omega (arith, size, cut, part.1, short)))
    (subst (λ (n : ℕ). Rose n (faults_of kept)) (none_failed old (omega (arith, ap length none))) rose)

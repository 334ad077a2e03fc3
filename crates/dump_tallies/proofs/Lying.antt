-- The files in which a disk's tracks lie.
use Rattle.std.proofs.Common.{◌≡◌, ◌≤◌, ◌<◌, ◌⊎◌, ◌+◌, ◌*◌, ◌/◌, ◌%◌, ℕ, true, false, Some, inl, inr, refl, sym, ap, ◌∙◌, arith}
use Rattle.std.specs.Prelude.{nat_lt}
use Rattle.std.specs.List.{slice_get}
use Rattle.std.proofs.lemmas.Bool.{cases_lt, le-ltb}
use Rattle.std.proofs.lemmas.List.Folds.{list_all_at}
use Rattle.std.proofs.lemmas.Option.{get_or_from_slice_get, slice_get_within}
use Rattle.flux_base.specs.declared.track.TrackId.{TrackId}
use Rattle.sector_images.specs.Places.{IsTrack, TracksKeepBounds, tracks}
use Rattle.sector_images.specs.declared.format.Format.{Format}
use Rattle.track_shelf.specs.Stepping.{file_track, reaches, reaches_all}
use Rattle.track_shelf.specs.declared.stepping.Stepping.{Stepping}
use Rattle.track_shelf.specs.declared.stepping.Stepping.TheVariants.{Single, Double}
use Rattle.dump_tallies.specs.Files.{file_number, file_of, track_of_file}

-- a drive with these steps reaches the track, and it has one of two heads
pub record Lies (stepping : Stepping) (track : TrackId) : Type 0 where
  pub cylinder : (file_track stepping track).cylinder < 100
  pub head : track.head < 2

pub same-head : (stepping : Stepping) (track : TrackId) → (file_track stepping track).head ≡ track.head
same-head Single track = refl
same-head Double track = refl

-- the number of a file tells the track by which it is named
pub same-file : (track : TrackId) → track.head < 2 → track_of_file (file_number track) ≡ track
same-file track few =
    let c : (2 * track.cylinder + track.head) / 2 ≡ track.cylinder = omega (arith, few) in
    let h : (2 * track.cylinder + track.head) % 2 ≡ track.head = omega (arith, few) in
    ap (λ (n : ℕ). let t : TrackId = record { cylinder = n; head = (2 * track.cylinder + track.head) % 2 } in t) c
    ∙ ap (λ (n : ℕ). let t : TrackId = record { cylinder = track.cylinder; head = n } in t) h

module _ (stepping : Stepping) (track : TrackId) (lies : Lies stepping track) where
  pub file-is : track_of_file (file_of stepping track) ≡ file_track stepping track
  file-is = same-file (file_track stepping track) (let same = same-head stepping track in let few = lies.head in omega (arith, same, few))

  pub file-below : file_of stepping track < 200
  file-below = (let same = same-head stepping track in let few = lies.head in let low = lies.cylinder in omega (arith, same, few, low))

-- one that does not reach some track does not reach all
not-all : (format : Format) (number : ℕ) (track : TrackId) → slice_get (tracks format) number ≡ Some track → nat_lt track.cylinder 42 ≡ false → reaches_all Double format ≡ false
unfolding reaches_all
not-all format number track at past =
    list_all_at (reaches Double) (tracks format) number track (slice_get_within (tracks format) number track at)
    (ap (reaches Double) (get_or_from_slice_get (tracks format) number track track at) ∙ past)

-- a drive that reaches all tracks of a format reaches each
pub lies-own : (stepping : Stepping) (format : Format) → TracksKeepBounds → reaches_all stepping format ≡ true → (number : ℕ) (track : TrackId)
    → slice_get (tracks format) number ≡ Some track → IsTrack format track → Lies stepping track
lies-own Single format bounds all number track at is = (let keeps = bounds format track is in record { cylinder = keeps.cylinder; head = keeps.head })
lies-own Double format bounds all number track at is = record { cylinder = by (cases_lt track.cylinder 42); head = (bounds format track is).head }
  where
    false-true : false ≡ true → ⊥
    false-true same = cc

    by : (track.cylinder < 42) ⊎ (42 ≤ track.cylinder) → 2 * track.cylinder < 100
    by (inl low) = omega (arith, low)
    by (inr past) = absurd (false-true (sym (not-all format number track at (le-ltb track.cylinder 42 past)) ∙ all))

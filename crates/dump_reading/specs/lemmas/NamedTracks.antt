-- Which tracks files can be named by, and which of them are a format's.
use Rattle.std.specs.Prelude.{◌≡◌, ℕ, zero, suc, ◌+◌, ◌*◌, ◌/◌, ◌%◌, ◌<◌, ◌≤◌, ◌⊎◌, Bool, true}
use Rattle.std.specs.Prelude.{false, ◌&&◌, nat_lt, length, get_or, refl}
use Rattle.std.specs.List.{flat_map, range_with_len}
use Rattle.std.proofs.Common.{ap, sym, ◌∙◌, arith, inl, inr}
use Rattle.std.proofs.lemmas.Bool.{cases_lt, le-ltb}
use Rattle.flux_base.specs.declared.track.TrackId.{TrackId}
use Rattle.sector_images.specs.Formats.{row}
use Rattle.sector_images.specs.Places.{IsTrack}
use Rattle.sector_images.specs.declared.format.Format.{Format}
use Rattle.track_shelf.specs.declared.stepping.Stepping.{Stepping}
use Rattle.track_shelf.specs.declared.stepping.Stepping.TheVariants.{Double, Single}
use Rattle.dump_reading.specs.Beside.{both_heads, is_track, most_cylinders, named_tracks}

abbrev no_track : TrackId
no_track = record { cylinder = 0; head = 0 }

-- a track that is one of the format's
pub track-is-one : (format : Format) (track : TrackId) → is_track format track ≡ true
    → IsTrack format track
track-is-one format track is =
    by (cases_lt track.cylinder (row format).cylinders) (cases_lt track.head (row format).heads)
  where
    and-false : (b : Bool) → (b && false) ≡ true → ⊥
    and-false true same = cc
    and-false false same = cc

    false-true : false ≡ true → ⊥
    false-true same = cc

    by : (track.cylinder < (row format).cylinders) ⊎ ((row format).cylinders ≤ track.cylinder)
        → (track.head < (row format).heads) ⊎ ((row format).heads ≤ track.head)
        → IsTrack format track
    by (inl low) (inl few) = (low, few)
    by (inl low) (inr most) =
        absurd
        (and-false _
        (ap (λ (b : Bool). nat_lt track.cylinder (row format).cylinders && b)
        (sym (le-ltb track.head (row format).heads most))
        ∙ is))
    by (inr past) other =
        absurd
        (let e =
        ap (λ (b : Bool). b && nat_lt track.head (row format).heads)
        (sym (le-ltb track.cylinder (row format).cylinders past))
        ∙ is in
        false-true e)

-- the track of a number among those that files can be named by
get-pairs : (first rows n : ℕ) → n < 2 * rows
    → get_or (flat_map both_heads (range_with_len first rows)) n no_track
    ≡ record { cylinder = first + n / 2; head = n % 2 }
get-pairs first zero n below = absurd (omega (arith, below))
get-pairs first (suc rows) zero below =
    let same : first ≡ first + 0 / 2 = omega arith in
    ap (λ (c : ℕ). record { cylinder = c; head = 0 }) same
get-pairs first (suc rows) (suc zero) below =
    let same : first ≡ first + 1 / 2 = omega arith in
    ap (λ (c : ℕ). record { cylinder = c; head = 1 }) same
get-pairs first (suc rows) (suc (suc m)) below =
    let half : first + 1 + m / 2 ≡ first + suc (suc m) / 2 = omega arith in
    let rest : m % 2 ≡ suc (suc m) % 2 = omega arith in
    get-pairs (first + 1) rows m (omega (arith, below))
    ∙ ap (λ (c : ℕ). record { cylinder = c; head = m % 2 }) half
    ∙ ap (λ (h : ℕ). record { cylinder = first + suc (suc m) / 2; head = h }) rest

length-pairs : (first rows : ℕ)
    → length (flat_map both_heads (range_with_len first rows)) ≡ 2 * rows
length-pairs first zero = refl
length-pairs first (suc rows) = (let more = length-pairs (first + 1) rows in omega (arith, more))

pub named-track : (stepping : Stepping) (n : ℕ) → n < 2 * most_cylinders stepping
    → get_or (named_tracks stepping) n no_track ≡ record { cylinder = n / 2; head = n % 2 }
named-track stepping n below =
    let same : 0 + n / 2 ≡ n / 2 = omega arith in
    get-pairs 0 (most_cylinders stepping) n below
    ∙ ap (λ (c : ℕ). record { cylinder = c; head = n % 2 }) same

pub named-many : (stepping : Stepping)
    → length (named_tracks stepping) ≡ 2 * most_cylinders stepping
named-many stepping = length-pairs 0 (most_cylinders stepping)

-- they have at most a hundred cylinders
pub cylinders-few : (stepping : Stepping) → most_cylinders stepping ≤ 100
cylinders-few Single = omega arith
cylinders-few Double = omega arith

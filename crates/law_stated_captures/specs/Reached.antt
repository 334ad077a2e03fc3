-- For each ring there are streams at each bound, and so for each track of each image.
use Rattle.std.specs.Prelude.{◌≡◌, ◌<◌, ◌≤◌, ℕ, ◌+◌, ◌-◌, ◌*◌, ◌/◌, ◌%◌, max, min, Bool, true}
use Rattle.std.specs.Prelude.{false, List, length, get_or}
use Rattle.flux_engine.specs.Rings.{IsImage, nominal_of, ring_of}
use Rattle.sector_images.specs.Places.{tracks}
use Rattle.sector_images.specs.declared.format.Format.{Format}
use Rattle.track_rings.specs.Rings.{IsSpaced}
use Rattle.law_stated_captures.specs.Reaching.{AreAtGap, IsAtBounds, IsFurthestSpeed, IsSpeed}

-- a ring of 1024 to 524288 cells whose neighbouring ones are one to four apart, and a
-- nominal cell of 16 to 128 ticks
pub record IsTurned (ring : List Bool) (nominal : ℕ) : Type 0 where
  pub spaced : IsSpaced 1 4 ring
  pub shortest_ring : 1024 ≤ length ring
  pub longest_ring : length ring ≤ 524288
  pub shortest_cell : 16384 ≤ nominal
  pub longest_cell : nominal ≤ 131072

-- the place of the repeated ring has a one
abbrev pub HasOne : List Bool → ℕ → Type 0
HasOne ring place = get_or ring (place % length ring) false ≡ true

-- Whatever one it begins at, however the speed changes, wherever the turns lie and
-- whichever transitions are late.
abbrev pub RingsReachBounds : Type 0
RingsReachBounds =
    (ring : List Bool) (nominal from : ℕ) (speed : ℕ → ℕ) (mean index : ℕ) (late : ℕ → Bool)
    → IsTurned ring nominal → HasOne ring from
    → IsSpeed nominal speed mean → index < 2147483648
    → (x : List ℕ) × IsAtBounds x ring nominal from speed mean index late

-- so it is of two pieces, from any one and from any one again, of one transition
-- each or more, a million together
abbrev pub PiecesReachBounds : Type 0
PiecesReachBounds = (ring : List Bool) (nominal from many : ℕ) (speed : ℕ → ℕ) (from' many' : ℕ)
    (speed' : ℕ → ℕ) (mean index : ℕ)
    → IsTurned ring nominal
    → HasOne ring from → HasOne ring from' → 0 < many → 0 < many' → many + many' ≤ 1000000
    → IsSpeed nominal speed mean → IsSpeed nominal speed' mean
    → index < 2147483648
    → (x : List ℕ) × AreAtGap x ring nominal from many speed from' many' speed' mean index

-- So for each track of an image, from each place of its ring on, as in the middle of a sector,
-- where the next one is at most three cells further.
abbrev pub TracksReachBounds : Type 0
TracksReachBounds = (format : Format) (image : List ℕ) (k place : ℕ) (speed : ℕ → ℕ)
    (mean index : ℕ) (late : ℕ → Bool)
    → IsImage format image → k < length (tracks format)
    → IsSpeed (nominal_of format k) speed mean → index < 2147483648
    → (from : ℕ) × (place ≤ from) × (from ≤ place + 3) × (x : List ℕ)
    × IsAtBounds x (ring_of format image k) (nominal_of format k) from speed mean index late

abbrev pub TrackPiecesReachBounds : Type 0
TrackPiecesReachBounds = (format : Format) (image : List ℕ) (k place many : ℕ) (speed : ℕ → ℕ)
    (place' many' : ℕ) (speed' : ℕ → ℕ) (mean index : ℕ)
    → IsImage format image
    → k < length (tracks format) → 0 < many → 0 < many' → many + many' ≤ 1000000
    → IsSpeed (nominal_of format k) speed mean
    → IsSpeed (nominal_of format k) speed' mean → index < 2147483648
    → (from : ℕ) × (place ≤ from) × (from ≤ place + 3) × (from' : ℕ) × (place' ≤ from')
    × (from' ≤ place' + 3)
    × (x : List ℕ)
    × AreAtGap x (ring_of format image k) (nominal_of format k) from many speed from' many'
    speed' mean index

-- always the same local period
abbrev pub always : ℕ → ℕ → ℕ
always period i = period

-- the least local period and the greatest are speeds, each with a mean at both its bounds
abbrev pub BoundsAreSpeeds : Type 0
BoundsAreSpeeds = (nominal : ℕ) → 16384 ≤ nominal
    → IsSpeed nominal (always ((7 * nominal + 7) / 8)) ((7 * nominal + 7) / 8 - nominal / 64)
    × IsSpeed nominal (always ((7 * nominal + 7) / 8)) ((7 * nominal + 7) / 8 + nominal / 64)
    × IsSpeed nominal (always (9 * nominal / 8)) (9 * nominal / 8 - nominal / 64)
    × IsSpeed nominal (always (9 * nominal / 8)) (9 * nominal / 8 + nominal / 64)

-- From a 64th of the nominal cell off a mean on, one drifts as fast as may be to a 45th of it, and
-- stays there: slower than the mean, or faster.
abbrev pub slowing : (nominal mean : ℕ) → ℕ → ℕ
slowing nominal mean i = min (mean + nominal / 64 + i * (nominal / 16384)) (mean + nominal / 45)

abbrev pub speeding : (nominal mean : ℕ) → ℕ → ℕ
speeding nominal mean i = max (mean - nominal / 64 - i * (nominal / 16384)) (mean - nominal / 45)

-- Where all these are local periods that may be, they are speeds that keep to a mean, and from
-- transition number 256 on the furthest.
abbrev pub SteadyBoundsAreSpeeds : Type 0
SteadyBoundsAreSpeeds = (nominal mean : ℕ) → 16384 ≤ nominal
    → 7 * nominal ≤ 8 * (mean - nominal / 45) → 8 * (mean + nominal / 45) ≤ 9 * nominal
    → IsFurthestSpeed nominal (slowing nominal mean) mean
    × IsFurthestSpeed nominal (speeding nominal mean) mean

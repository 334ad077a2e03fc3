-- Streams that reach each bound, in plain numbers.
use Rattle.std.specs.Prelude.{◌≡◌, ◌<◌, ◌≤◌, ℕ, ◌+◌, ◌*◌, ℤ, pos, ◌+ℤ◌, ◌-ℤ◌, nat_abs, Bool, true}
use Rattle.std.specs.Prelude.{false, List, [], ◌∷◌, length, slice_index}
use Rattle.kryo_stream.specs.Stream.{indexes, times}
use Rattle.phase_loop.specs.Pieces.{Piece}
use Rattle.law_stated_captures.specs.Streams.{StatedCapture, StatedErasedCapture, first_mean}
use Rattle.law_stated_captures.specs.Streams.{last_of}

-- The transition is as late as it may be in whole ticks, or as early: a tick more, and
-- it would be beyond the bound.
abbrev pub IsFurthest : (late : Bool) (nominal time : ℕ) (ideal : ℤ) → Type 0
IsFurthest true nominal time ideal = nominal < 8 * nat_abs (pos (1024 * (time + 1)) -ℤ ideal)
IsFurthest false nominal time ideal =
    nominal < 8 * nat_abs (pos (1024 * time) -ℤ (ideal +ℤ pos 1024))

-- each transition is so, those late that are to be late, and the other ones early
abbrev pub AreFurthest : (ℕ → Bool) → (nominal : ℕ) → List ℕ → (ℕ → ℤ) → Type 0
AreFurthest late nominal times ideal =
    (i : ℕ) → i < length times → IsFurthest (late i) nominal (slice_index times i) (ideal i)

-- the local periods are those of a drive with this speed, by the number of the transition
abbrev pub HaveSpeed : (ℕ → ℕ) → List ℕ → Type 0
HaveSpeed speed periods = (i : ℕ) → i < length periods → slice_index periods i ≡ speed i

-- Local periods within their bounds, each so near the one before as it is to be, and a mean of
-- the first turn within its own.
pub record IsSpeed (nominal : ℕ) (speed : ℕ → ℕ) (mean : ℕ) : Type 0 where
  pub fastest : (i : ℕ) → 7 * nominal ≤ 8 * speed i
  pub slowest : (i : ℕ) → 8 * speed i ≤ 9 * nominal
  pub drift : (i : ℕ) → 16384 * nat_abs (pos (speed (i + 1)) -ℤ pos (speed i)) ≤ nominal
  pub near : 64 * nat_abs (pos mean -ℤ pos (speed 0)) ≤ nominal

-- A speed that keeps to its mean, and from transition number 256 on is as far from it as may be.
pub record IsFurthestSpeed (nominal : ℕ) (speed : ℕ → ℕ) (mean : ℕ) : Type 0 where
  pub is : IsSpeed nominal speed mean
  pub keeps : (i : ℕ) → 45 * nat_abs (pos mean -ℤ pos (speed i)) ≤ nominal
  pub furthest : (i : ℕ) → 256 ≤ i → nominal < 45 * (nat_abs (pos mean -ℤ pos (speed i)) + 1)

-- A capture at each bound at once: from this place of the repeated ring over exactly two rings, at
-- these local periods, with each transition displaced to the bound, and with this mean of the first
-- turn, which begins at this index time. Its first block is out of band. All transitions are before
-- 2^30 ticks, so that with a later index time all turns lie behind the last of them.
pub record IsAtBounds (x : List ℕ) (ring : List Bool) (nominal from : ℕ) (speed : ℕ → ℕ)
    (mean index : ℕ) (late : ℕ → Bool) : Type 0 where
  pub stated : StatedCapture x ring nominal
  pub begins : slice_index stated.places 0 ≡ from
  pub ends : last_of stated.places ≡ from + 2 * length ring
  pub speed_is : HaveSpeed speed stated.periods
  pub furthest : AreFurthest late nominal (times x) stated.kept.ideal
  pub mean_is : first_mean (indexes x) (length ring) ≡ mean
  pub index_is : slice_index (indexes x) 0 ≡ index
  pub early : last_of (times x) < 1073741824
  pub out_of_band : slice_index x 0 ≡ 13

-- Two pieces as near as they may be in whole ticks: a tick less from the one to the other, and it
-- would be less than 48 nominal cells. Each begins at its place of the repeated ring, has so many
-- transitions and a speed of its own; the turns are as above.
pub record AreAtGap (x : List ℕ) (ring : List Bool) (nominal from many : ℕ) (speed : ℕ → ℕ)
    (from' many' : ℕ) (speed' : ℕ → ℕ) (mean index : ℕ) : Type 0 where
  pub stated : StatedErasedCapture x ring nominal
  pub first : Piece
  pub second : Piece
  pub are : stated.pieces ≡ first ∷ second ∷ []
  pub begins : slice_index first.places 0 ≡ from
  pub begins' : slice_index second.places 0 ≡ from'
  pub size : length first.times ≡ many
  pub size' : length second.times ≡ many'
  pub speed_is : HaveSpeed speed first.periods
  pub speed_is' : HaveSpeed speed' second.periods
  pub nearest : 1024 * slice_index second.times 0 < 1024 * last_of first.times + 48 * nominal + 1024
  pub mean_is : first_mean (indexes x) (length ring) ≡ mean
  pub index_is : slice_index (indexes x) 0 ≡ index
  pub out_of_band : slice_index x 0 ≡ 13

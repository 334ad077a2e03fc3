-- Transitions that carry a ring: which times may be met where a drive turns over a written track.
use Rattle.std.specs.Prelude.{◌≡◌, ◌≤◌, ◌<◌, ℕ, ◌+◌, ◌-◌, ◌*◌, Bool, true, List, length}
use Rattle.std.specs.Prelude.{slice_index}
use Rattle.std.specs.Int.{abs_diff}
use Rattle.track_rings.specs.Rings.{AreNeighbours, cell_of}
use Rattle.phase_loop.specs.Start.{FINE_PER_TICK}

-- two numbers of fine units are apart by at most one of so many parts of the nominal cell
abbrev pub AreClose : (parts nominal a b : ℕ) → Type 0
AreClose parts nominal a b = parts * abs_diff a b ≤ nominal

-- The bounds of disturbance, as parts of the nominal cell. A local period is the length of a cell
-- at a transition. how far a local period is from the nominal cell
abbrev pub OFF_SPEED : ℕ
OFF_SPEED = 8

-- how far neighbouring local periods are apart
abbrev pub DRIFT : ℕ
DRIFT = 16384

-- how far a transition is from its ideal place
abbrev pub DISPLACEMENT : ℕ
DISPLACEMENT = 8

-- how far the mean cell of the first turn is from the first local period
abbrev pub OFF_START : ℕ
OFF_START = 64

-- how far each local period is from the mean cell of the first turn, where a drive keeps its speed
abbrev pub OFF_MEAN : ℕ
OFF_MEAN = 45

-- The drive keeps its speed: each local period is near the mean cell of the first turn.
abbrev pub KeepsSpeed : (nominal mean : ℕ) → List ℕ → Type 0
KeepsSpeed nominal mean periods =
    (i : ℕ) → i < length periods → AreClose OFF_MEAN nominal mean (slice_index periods i)

-- The transitions at these times, in ticks, are consecutive ones at these places of the
-- endlessly repeated ring, and there is an ideal place for each, in fine units from one nominal
-- cell before time 0 on, so that each lies within the bounds: it is a local period for each cell
-- after the one before, the periods are near the nominal cell and drift slowly, and the
-- transition is near its ideal place.
pub record Carried (times : List ℕ) (ring : List Bool) (nominal : ℕ)
    (places periods : List ℕ) : Type 0 where
  pub each_place : length places ≡ length times
  pub each_period : length periods ≡ length times
  pub ones : (i : ℕ) → i < length times → cell_of ring (slice_index places i) ≡ true
  pub consecutive : (i : ℕ) → i + 1 < length times
      → AreNeighbours ring (slice_index places i)
      (slice_index places (i + 1) - slice_index places i)
  pub ideal : List ℕ
  pub spaced : (i : ℕ) → i + 1 < length times
      → slice_index ideal (i + 1)
      ≡ slice_index ideal i
      + (slice_index places (i + 1) - slice_index places i) * slice_index periods i
  pub near_speed : (i : ℕ) → i < length times
      → AreClose OFF_SPEED nominal (slice_index periods i) nominal
  pub steady : (i : ℕ) → i + 1 < length times
      → AreClose DRIFT nominal (slice_index periods (i + 1)) (slice_index periods i)
  pub near_place : (i : ℕ) → i < length times
      → AreClose DISPLACEMENT nominal (FINE_PER_TICK * slice_index times i + nominal)
      (slice_index ideal i)

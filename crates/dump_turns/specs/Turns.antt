-- The revolutions of a stream, and how fast they are.
use Rattle.std.specs.Prelude.{◌≡◌, ◌<◌, ◌≤◌, ℕ, ◌+◌, ◌-◌, ◌*◌, ◌/◌, ◌^◌, List, length, slice_index}
use Rattle.index_turns.specs.Track.{turn_length}
use Rattle.dump_turns.specs.declared.found.FileTurns.{FileTurns}

-- a revolution between two of these index moments has so many ticks
pub record IsTurn (indexes : List ℕ) (ticks : ℕ) : Type 0 where
  pub turn : ℕ
  pub first : 0 < turn
  pub last : turn < length indexes
  pub is : turn_length indexes turn ≡ ticks

-- Of these transitions and index moments: how many there are; of the revolutions between the
-- index moments the shortest and the longest; and the time from the first moment to the last.
pub record AreTurns (times indexes : List ℕ) (t : FileTurns) : Type 0 where
  pub transitions : t.transitions ≡ length times
  pub turns : t.turns + 1 ≡ length indexes
  pub least : IsTurn indexes t.least
  pub none_shorter : (ticks : ℕ) → IsTurn indexes ticks → t.least ≤ ticks
  pub greatest : IsTurn indexes t.greatest
  pub none_longer : (ticks : ℕ) → IsTurn indexes ticks → ticks ≤ t.greatest
  pub ticks : t.ticks ≡ slice_index indexes t.turns - slice_index indexes 0

-- what a stream's limit makes of it
pub record IsBoundedTurns (t : FileTurns) : Type 0 where
  pub bytes : t.bytes < 2 ^ 32
  pub some_turn : 0 < t.turns
  pub few_turns : t.turns ≤ 262144
  pub each : t.turns ≤ t.ticks
  pub few_ticks : t.ticks < 2 ^ 39

-- the mean of the revolutions, whole ticks
abbrev pub mean_of : FileTurns → ℕ
mean_of t = t.ticks / t.turns

-- so many ticks are seven seconds (KryoFlux stream protocol: the sample clock)
abbrev pub TICKS_OF_SEVEN_SECONDS : ℕ
TICKS_OF_SEVEN_SECONDS = 168192000

-- The revolutions a minute in hundredths of so many in so many ticks, the nearest number, of two
-- the greater: 60 seconds in hundredths, and half of the divisor for the nearest.
abbrev pub speed_of : (turns ticks : ℕ) → ℕ
speed_of turns ticks =
    (2 * (6000 * (TICKS_OF_SEVEN_SECONDS * turns)) + 7 * ticks) / (2 * (7 * ticks))

-- What a caller of the writer gives, and what a written stream is to its reader.
use Rattle.std.specs.Prelude.{◌≡◌, ◌<◌, ℕ, List, Bool, true, false, length, get_or}
pub use Rattle.kryo_stream.specs.Sequence.{IsStreamOf}
use Rattle.track_rings.specs.Rings.{last_in}
use Rattle.flux_writer.specs.Written.{quarter}

-- the last index time lies before the last transition, so that there is
-- one where there are index times
abbrev pub EndsWithTransition : List ℕ → List ℕ → Type 0
EndsWithTransition transitions turns = 0 < length turns → last_in turns < last_in transitions

-- a cell that is a one stands after the place
abbrev pub HasOneAfter : List Bool → ℕ → Type 0
HasOneAfter cells place = (one : ℕ) × (place < one) × (get_or cells one false ≡ true)

-- the most cells of a ring that is written
abbrev pub MOST_RING_CELLS : ℕ
MOST_RING_CELLS = 524288

-- a cell that is a one stands in the ring's first quarter, after its first cell, and so after the
-- last index cell of what is written of the ring
abbrev pub HasEarlyOne : List Bool → Type 0
HasEarlyOne ring = (one : ℕ) × (0 < one) × (one < quarter ring) × (get_or ring one false ≡ true)

-- The class of captures is the stated one: what keeps the numbers of the second spelling is a
-- capture, and there are no others.
use Rattle.std.specs.Prelude.{◌≡◌, ◌<◌, ◌↔◌, ℕ, Bool, List, ◌∷◌}
use Rattle.phase_loop.specs.Carried.{Carried}
use Rattle.flux_engine.specs.Captures.{Capture, ErasedCapture, IsSteady, IsSteadyErased}
use Rattle.law_stated_captures.specs.Bounds.{KeepBounds}
use Rattle.law_stated_captures.specs.Streams.{IsStatedSteady, IsStatedSteadyErased, StatedCapture}
use Rattle.law_stated_captures.specs.Streams.{StatedErasedCapture}

-- times carry a ring exactly where they keep the bounds
abbrev pub StatedTimesAreCarried : Type 0
StatedTimesAreCarried = (times : List ℕ) (ring : List Bool) (nominal : ℕ) (places periods : List ℕ)
    → KeepBounds times ring nominal places periods ↔ Carried times ring nominal places periods

-- each stream that keeps them is a capture, with the same places and periods
abbrev pub StatedCapturesAreCaptures : Type 0
StatedCapturesAreCaptures =
    (x : List ℕ) (ring : List Bool) (nominal : ℕ) (stated : StatedCapture x ring nominal)
    → (capture : Capture x ring nominal) × (capture.places ≡ stated.places)
    × (capture.periods ≡ stated.periods)

-- and each capture is such a stream
abbrev pub CapturesAreStated : Type 0
CapturesAreStated = (x : List ℕ) (ring : List Bool) (nominal : ℕ) (capture : Capture x ring nominal)
    → (stated : StatedCapture x ring nominal) × (stated.places ≡ capture.places)
    × (stated.periods ≡ capture.periods)

-- each stream that keeps them in pieces is an erased capture, with the same pieces
abbrev pub StatedErasedCapturesAreErased : Type 0
StatedErasedCapturesAreErased =
    (x : List ℕ) (ring : List Bool) (nominal : ℕ) (stated : StatedErasedCapture x ring nominal)
    → (erased : ErasedCapture x ring nominal) × (erased.first ∷ erased.later ≡ stated.pieces)

-- and each erased capture is such a stream
abbrev pub ErasedCapturesAreStated : Type 0
ErasedCapturesAreStated = (x : List ℕ) (ring : List Bool) (nominal : ℕ) → 0 < nominal
    → (erased : ErasedCapture x ring nominal)
    → (stated : StatedErasedCapture x ring nominal) × (stated.pieces ≡ erased.first ∷ erased.later)

-- and the drive of a capture keeps its speed exactly where that of the stated capture with the same
-- periods does, whole or in pieces
pub record StatedSpeedsAreKept : Type 0 where
  pub whole : (x : List ℕ) (ring : List Bool) (nominal : ℕ) (capture : Capture x ring nominal)
      (stated : StatedCapture x ring nominal)
      → stated.periods ≡ capture.periods
      → IsStatedSteady x ring nominal stated ↔ IsSteady x ring nominal capture
  pub erased : (x : List ℕ) (ring : List Bool) (nominal : ℕ)
      (capture : ErasedCapture x ring nominal) (stated : StatedErasedCapture x ring nominal)
      → stated.pieces ≡ capture.first ∷ capture.later
      → IsStatedSteadyErased x ring nominal stated ↔ IsSteadyErased x ring nominal capture

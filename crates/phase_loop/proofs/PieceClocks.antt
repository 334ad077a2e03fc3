-- A piece of transitions that carry a ring is a clock within the bounds.
use Rattle.std.proofs.Common.{◌≡◌, ℕ, suc, ◌+◌, ◌-◌, ◌*◌, ◌<◌, ◌≤◌, List, length, arith, ap, subst, add-one, Bool, slice_index}
use Rattle.track_rings.specs.Rings.{AreNeighbours, IsSpaced}
use Rattle.phase_loop.specs.Carried.{AreClose, Carried}
use Rattle.phase_loop.specs.Pieces.{IsPiece, Piece}
use Rattle.phase_loop.specs.declared.start.LoopStart.{LoopStart}
use Rattle.phase_loop.proofs.Nearness.{IsLocal, IsTimed}
use Rattle.phase_loop.proofs.Clock.{IsClock}
use Rattle.phase_loop.proofs.Tracking.{KeepsPace}

local_near : (nominal local : ℕ) → 16384 ≤ nominal → AreClose 8 nominal local nominal → IsLocal nominal local
local_near nominal local least near = record { least = least; low = omega (arith, near); high = omega (arith, near) }

timed_near : (nominal fine ideal : ℕ) → AreClose 8 nominal (fine + nominal) ideal → IsTimed nominal ideal fine
timed_near nominal fine ideal near = record { low = omega (arith, near); high = omega (arith, near) }

abbrev pub fine_of : Piece → ℕ → ℕ
fine_of piece i = 1024 * slice_index piece.times i

abbrev pub place_of : Piece → ℕ → ℕ
place_of piece i = slice_index piece.places i

abbrev pub distance_of : Piece → ℕ → ℕ
distance_of piece i = slice_index piece.places (suc i) - slice_index piece.places i

abbrev pub local_of : Piece → ℕ → ℕ
local_of piece i = slice_index piece.periods i

abbrev pub ideal_of : (piece : Piece) (ring : List Bool) (nominal : ℕ) → Carried piece.times ring nominal piece.places piece.periods → ℕ → ℕ
ideal_of piece ring nominal carried i = slice_index carried.ideal i

-- one piece is a clock
module _ (nominal : ℕ) (ring : List Bool) (piece : Piece) (least : 16384 ≤ nominal) (spaced : IsSpaced 1 4 ring)
    (carried : Carried piece.times ring nominal piece.places piece.periods) where
  pub neighbours : (i : ℕ) → suc i < length piece.times → AreNeighbours ring (place_of piece i) (distance_of piece i)
  neighbours i within =
      let e : i + 1 ≡ suc i = add-one i in
      subst (λ (n : ℕ). AreNeighbours ring (place_of piece i) (slice_index piece.places n - place_of piece i)) e (carried.consecutive i (omega (arith, within)))

  pub is_clock : IsClock nominal (length piece.times) (fine_of piece) (place_of piece) (distance_of piece) (local_of piece) (ideal_of piece ring nominal carried)
  is_clock = record {
    speed = λ i within. local_near nominal (local_of piece i) least (carried.near_speed i within);
    up = λ i within.
        let e : slice_index piece.periods (i + 1) ≡ slice_index piece.periods (suc i) = ap (slice_index piece.periods) (add-one i) in
        let near = carried.steady i (omega (arith, within)) in
        omega (arith, near, e);
    down = λ i within.
        let e : slice_index piece.periods (i + 1) ≡ slice_index piece.periods (suc i) = ap (slice_index piece.periods) (add-one i) in
        let near = carried.steady i (omega (arith, within)) in
        omega (arith, near, e);
    timed = λ i within. timed_near nominal (fine_of piece i) (ideal_of piece ring nominal carried i) (carried.near_place i within);
    spaced = λ i within.
        let e : i + 1 ≡ suc i = add-one i in
        subst (λ (n : ℕ). slice_index carried.ideal n ≡ ideal_of piece ring nominal carried i + (slice_index piece.places n - place_of piece i) * local_of piece i) e (carried.spaced i (omega (arith, within)));
    further = λ i within. let some = (neighbours i within).behind in omega (arith, some);
    some = λ i within. (neighbours i within).behind;
    few = λ i within. (spaced.apart (place_of piece i) (distance_of piece i) (neighbours i within)).1;
  }

-- a piece that the loop's period stays near
pub record IsFollowed (start : LoopStart) (slack : ℕ) (ring : List Bool) (piece : Piece) : Type 0 where
  pub is : IsPiece start.nominal start.first ring piece
  pub pace : KeepsPace start slack (length piece.times) (fine_of piece) (place_of piece) (distance_of piece) (local_of piece)
      (ideal_of piece ring start.nominal is.carried)

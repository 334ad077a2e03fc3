-- Both clocks recover a ring's cells: the one that follows the drive, and, where the drive keeps its speed, the one that holds its
-- first period.
use Rattle.std.proofs.Common.{◌≡◌, ℕ, ◌+◌, ◌*◌, ◌/◌, ◌≤◌, List, [], ◌∷◌, length, arith, refl, sym, ◌∙◌, subst, Bool, slice_index}
use Rattle.std.proofs.lemmas.List.{append-nil}
use Rattle.std.proofs.lemmas.List.Elements.{All-cons, All-head, All-nil}
use Rattle.track_rings.specs.Rings.{IsSpaced}
use Rattle.phase_loop.specs.Start.{HasWholeBand, IsHeld, IsNominal, IsStart, band_of, held, in_band, start_for}
use Rattle.phase_loop.specs.Rows.{recovered}
use Rattle.phase_loop.specs.Carried.{AreClose, KeepsSpeed}
use Rattle.phase_loop.specs.Pieces.{CarryPieces, EachKeepsSpeed, FollowsPieces, FollowsRing, FollowsSteadyPieces, FollowsSteadyRing, IsPiece, Piece, cells_of_piece}
use Rattle.phase_loop.specs.declared.start.LoopStart.{LoopStart}
use Rattle.phase_loop.proofs.Nearness.{following_slack, held_slack}
use Rattle.phase_loop.proofs.Clock.{IsClock}
use Rattle.phase_loop.proofs.Pacing.{StartsNear, StaysNear, following_pace, held_pace}
use Rattle.phase_loop.proofs.PieceClocks.{IsFollowed, distance_of, fine_of, ideal_of, is_clock, local_of, place_of}
use Rattle.phase_loop.proofs.PieceCells.{pieces_followed}

starts_near : (nominal first begin : ℕ) → AreClose 64 nominal first begin → StartsNear nominal first begin
starts_near nominal first begin near = record { low = omega (arith, near); high = omega (arith, near) }

low_near : (nominal first local : ℕ) → AreClose 45 nominal first local → 45 * first ≤ 45 * local + nominal
low_near nominal first local near = omega (arith, near)

high_near : (nominal first local : ℕ) → AreClose 45 nominal first local → 45 * local ≤ 45 * first + nominal
high_near nominal first local near = omega (arith, near)

module _ (start : LoopStart) (is_start : IsStart start) (ring : List Bool) (spaced : IsSpaced 1 4 ring) (piece : Piece)
    (is : IsPiece start.nominal start.first ring piece) where
  clock : IsClock start.nominal (length piece.times) (fine_of piece) (place_of piece) (distance_of piece) (local_of piece)
      (ideal_of piece ring start.nominal is.carried)
  clock = is_clock start.nominal ring piece is_start.nominal.shortest spaced is.carried

  starts : StartsNear start.nominal start.first (local_of piece 0)
  starts = starts_near start.nominal start.first (local_of piece 0) is.start

  -- a piece is followed where the period may follow the drive
  follows : HasWholeBand start → IsFollowed start (following_slack start.nominal) ring piece
  follows wide = record {
    is = is;
    pace = following_pace start (length piece.times) (fine_of piece) (place_of piece) (distance_of piece) (local_of piece)
        (ideal_of piece ring start.nominal is.carried) clock starts wide;
  }

  -- and where the period is held, and the drive keeps its speed
  holds : IsHeld start → KeepsSpeed start.nominal start.first piece.periods → IsFollowed start (held_slack start.nominal) ring piece
  holds is_held keeps =
      let size = is.carried.each_period in
      let near : StaysNear start (length piece.times) (fine_of piece) (place_of piece) (distance_of piece) (local_of piece)
      (ideal_of piece ring start.nominal is.carried) clock starts =
      record {
        low = λ i within. low_near start.nominal start.first (local_of piece i) (keeps i (omega (arith, within, size)));
        high = λ i within. high_near start.nominal start.first (local_of piece i) (keeps i (omega (arith, within, size)));
      } in
      record {
        is = is;
        pace = held_pace start (length piece.times) (fine_of piece) (place_of piece) (distance_of piece) (local_of piece)
            (ideal_of piece ring start.nominal is.carried) clock starts is_held near;
      }

-- the recovered cells are those of the pieces
pub pieces_recovered : (start : LoopStart) (times : List ℕ) → IsStart start → HasWholeBand start → FollowsPieces start.nominal start.first times (recovered start times)
pieces_recovered start times is_start wide ring first later spaced carry =
    pieces_followed start (following_slack start.nominal) times ring first later is_start.nominal.shortest spaced carry
    (λ k d within. follows start is_start ring spaced _ (carry.pieces k d within) wide)

pub steady_pieces_recovered : (start : LoopStart) (times : List ℕ) → IsStart start → IsHeld start
    → FollowsSteadyPieces start.nominal start.first times (recovered start times)
steady_pieces_recovered start times is_start is_held ring first later spaced carry keep =
    pieces_followed start (held_slack start.nominal) times ring first later is_start.nominal.shortest spaced carry
    (λ k d within. holds start is_start ring spaced _ (carry.pieces k d within) is_held (keep k d within))

-- one piece alone
one_piece : (nominal period : ℕ) (ring : List Bool) (piece : Piece) → IsPiece nominal period ring piece → CarryPieces nominal period ring piece.times piece []
one_piece nominal period ring piece is = record {
  cut = sym (append-nil piece.times);
  pieces = let P : Piece → Type 0 = IsPiece nominal period ring in All-cons P piece [] is (All-nil P);
  apart = tt;
}

pub ring_recovered : (start : LoopStart) (times : List ℕ) → IsStart start → HasWholeBand start → FollowsRing start.nominal start.first times (recovered start times)
ring_recovered start times is_start wide ring places periods spaced some carried near =
    let piece : Piece = record { times = times; places = places; periods = periods } in
    pieces_recovered start times is_start wide ring piece [] spaced
    (one_piece start.nominal start.first ring piece (record { some = some; carried = carried; start = near }))
    ∙ append-nil (cells_of_piece ring piece)

pub steady_ring_recovered : (start : LoopStart) (times : List ℕ) → IsStart start → IsHeld start → FollowsSteadyRing start.nominal start.first times (recovered start times)
steady_ring_recovered start times is_start is_held ring places periods spaced some carried near keeps =
    let piece : Piece = record { times = times; places = places; periods = periods } in
    let P : Piece → Type 0 = λ p. KeepsSpeed start.nominal start.first p.periods in
    steady_pieces_recovered start times is_start is_held ring piece [] spaced
    (one_piece start.nominal start.first ring piece (record { some = some; carried = carried; start = near }))
    (All-cons P piece [] keeps (All-nil P))
    ∙ append-nil (cells_of_piece ring piece)

-- a mean near the first local period lies in the band
in_band_same : (nominal mean local : ℕ) → 16384 ≤ nominal → AreClose 8 nominal local nominal → AreClose 64 nominal mean local
    → in_band (band_of nominal) mean ≡ mean
in_band_same nominal mean local least speed near = omega (arith, speed, near, least)

mean_in_band : (nominal mean : ℕ) (ring : List Bool) (times : List ℕ) (first : Piece) (later : List Piece) → IsNominal nominal
    → CarryPieces nominal mean ring times first later → in_band (band_of nominal) mean ≡ mean
mean_in_band nominal mean ring times first later is carry =
    let piece : IsPiece nominal mean ring first = All-head (IsPiece nominal mean ring) first later carry.pieces in
    in_band_same nominal mean (slice_index first.periods 0) is.shortest (piece.carried.near_speed 0 piece.some) piece.start

-- the start in the band
turn_start : (nominal ticks cells : ℕ) → IsNominal nominal → IsStart (start_for nominal ticks cells)
turn_start nominal ticks cells is = record { nominal = is; low = omega arith; from = omega arith; to = omega arith; high = omega arith }

pub turns_recovered : (nominal ticks cells : ℕ) (times : List ℕ) → IsNominal nominal
    → FollowsPieces nominal (1024 * ticks / cells) times (recovered (start_for nominal ticks cells) times)
turns_recovered nominal ticks cells times is ring first later spaced carry =
    let same = mean_in_band nominal (1024 * ticks / cells) ring times first later is carry in
    pieces_recovered (start_for nominal ticks cells) times (turn_start nominal ticks cells is) refl ring first later spaced
    (subst (λ (period : ℕ). CarryPieces nominal period ring times first later) (sym same) carry)

held_start : (start : LoopStart) → IsStart start → IsStart (held start)
held_start start is =
    let low = is.low in
    let from = is.from in
    let to = is.to in
    let high = is.high in
    record { nominal = is.nominal; low = omega arith; from = omega arith; to = omega arith; high = omega arith }

pub steady_turns_recovered : (nominal ticks cells : ℕ) (times : List ℕ) → IsNominal nominal
    → FollowsSteadyPieces nominal (1024 * ticks / cells) times (recovered (held (start_for nominal ticks cells)) times)
steady_turns_recovered nominal ticks cells times is ring first later spaced carry keep =
    let same = mean_in_band nominal (1024 * ticks / cells) ring times first later is carry in
    steady_pieces_recovered (held (start_for nominal ticks cells)) times (held_start (start_for nominal ticks cells) (turn_start nominal ticks cells is)) refl
    ring first later spaced
    (subst (λ (period : ℕ). CarryPieces nominal period ring times first later) (sym same) carry)
    (subst (λ (period : ℕ). EachKeepsSpeed nominal period (first ∷ later)) (sym same) keep)

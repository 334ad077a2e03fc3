-- Transitions that carry a ring in pieces: between two of them a stretch of the disk is
-- erased, and gives no transitions.
use Rattle.std.specs.Prelude.{◌≡◌, ◌≤◌, ◌<◌, ℕ, ◌+◌, ◌-◌, ◌*◌, ◌/◌, All, Bool, false, List, [], ◌∷◌}
use Rattle.std.specs.Prelude.{◌++◌, flat_map, length, replicate, slice_index}
use Rattle.track_rings.specs.Rings.{IsSpaced, last_in, stretch}
use Rattle.phase_loop.specs.Start.{FINE_PER_TICK, HasWholeBand, IsHeld, LONGEST, IsNominal, IsStart}
use Rattle.phase_loop.specs.Start.{held, start_for}
use Rattle.phase_loop.specs.Rows.{recovered}
use Rattle.phase_loop.specs.Carried.{AreClose, Carried, KeepsSpeed, OFF_START}
use Rattle.phase_loop.specs.declared.start.LoopStart.{LoopStart}

-- the cells of a ring from one place of the repetition to another, both with it
abbrev pub cells_between : List Bool → (from to : ℕ) → List Bool
cells_between ring from to = stretch ring from (to - from + 1)

-- a piece: the times of its transitions, the places of their ones in the
-- repeated ring, and the local periods
pub record Piece : Type 0 where
  pub times : List ℕ
  pub places : List ℕ
  pub periods : List ℕ

-- A piece has a transition and carries the ring, and its first local period is near the
-- period with which the loop starts.
pub record IsPiece (nominal period : ℕ) (ring : List Bool) (piece : Piece) : Type 0 where
  pub some : 0 < length piece.times
  pub carried : Carried piece.times ring nominal piece.places piece.periods
  pub start : AreClose OFF_START nominal period (slice_index piece.periods 0)

-- how many nominal cells lie at least between two pieces
abbrev pub GAP : ℕ
GAP = 48

-- so far they lie apart, each from the one before it
abbrev pub AreApart : ℕ → Piece → List Piece → Type 0
AreApart nominal piece [] = Unit {0}
AreApart nominal piece (next ∷ later) =
    (GAP * nominal ≤ FINE_PER_TICK * (slice_index next.times 0 - last_in piece.times))
    × AreApart nominal next later

-- The times, cut into pieces, carry the ring: a first piece and any number of later ones.
pub record CarryPieces (nominal period : ℕ) (ring : List Bool) (times : List ℕ) (first : Piece)
    (later : List Piece) : Type 0 where
  pub cut : times ≡ flat_map (λ piece. piece.times) (first ∷ later)
  pub pieces : All (IsPiece nominal period ring) (first ∷ later)
  pub apart : AreApart nominal first later

-- the drive keeps its speed in each piece
abbrev pub EachKeepsSpeed : (nominal mean : ℕ) → List Piece → Type 0
EachKeepsSpeed nominal mean pieces = All (λ piece. KeepsSpeed nominal mean piece.periods) pieces

-- the cells of a piece: the ring's from its first place to its last
abbrev pub cells_of_piece : List Bool → Piece → List Bool
cells_of_piece ring piece = cells_between ring (slice_index piece.places 0) (last_in piece.places)

-- the cells of all pieces, with the zeros of the longest interval between two
abbrev pub cells_of_pieces : List Bool → Piece → List Piece → List Bool
cells_of_pieces ring first later =
    cells_of_piece ring first
    ++ flat_map (λ piece. replicate (LONGEST - 1) false ++ cells_of_piece ring piece) later

-- The cells are the ring's where these times carry one: whatever ring it is whose neighbouring ones
-- are one to four cells apart, and whatever the places and the local periods are.
abbrev pub FollowsRing : (nominal period : ℕ) → List ℕ → List Bool → Type 0
FollowsRing nominal period times cells =
    (ring : List Bool) (places periods : List ℕ) → IsSpaced 1 4 ring → 0 < length times
    → Carried times ring nominal places periods
    → AreClose OFF_START nominal period (slice_index periods 0)
    → cells ≡ cells_between ring (slice_index places 0) (last_in places)

-- and those of the pieces where they carry one in pieces
abbrev pub FollowsPieces : (nominal period : ℕ) → List ℕ → List Bool → Type 0
FollowsPieces nominal period times cells =
    (ring : List Bool) (first : Piece) (later : List Piece) → IsSpaced 1 4 ring
    → CarryPieces nominal period ring times first later → cells ≡ cells_of_pieces ring first later

-- The same, where besides the drive keeps its speed.
abbrev pub FollowsSteadyRing : (nominal period : ℕ) → List ℕ → List Bool → Type 0
FollowsSteadyRing nominal period times cells =
    (ring : List Bool) (places periods : List ℕ) → IsSpaced 1 4 ring → 0 < length times
    → Carried times ring nominal places periods
    → AreClose OFF_START nominal period (slice_index periods 0)
    → KeepsSpeed nominal period periods
    → cells ≡ cells_between ring (slice_index places 0) (last_in places)

-- and in pieces
abbrev pub FollowsSteadyPieces : (nominal period : ℕ) → List ℕ → List Bool → Type 0
FollowsSteadyPieces nominal period times cells =
    (ring : List Bool) (first : Piece) (later : List Piece) → IsSpaced 1 4 ring
    → CarryPieces nominal period ring times first later
    → EachKeepsSpeed nominal period (first ∷ later) → cells ≡ cells_of_pieces ring first later

-- the recovered cells, whatever the times are, where the period may follow
-- the drive through the whole band
abbrev pub RecoversPieces : Type 0
RecoversPieces = (start : LoopStart) (times : List ℕ) → IsStart start → HasWholeBand start
    → FollowsPieces start.nominal start.first times (recovered start times)

-- also where the loop starts with the mean cell of the first turn, kept in the band
abbrev pub RecoversPiecesOfTurns : Type 0
RecoversPiecesOfTurns = (nominal turn_ticks ring_cells : ℕ) (times : List ℕ) → IsNominal nominal
    → FollowsPieces nominal (FINE_PER_TICK * turn_ticks / ring_cells) times
    (recovered (start_for nominal turn_ticks ring_cells) times)

-- one piece alone
abbrev pub RecoversRings : Type 0
RecoversRings = (start : LoopStart) (times : List ℕ) → IsStart start → HasWholeBand start
    → FollowsRing start.nominal start.first times (recovered start times)

-- the recovered cells, whatever the times are, where the period is always the first one
-- and the drive keeps its speed
abbrev pub RecoversSteadyPieces : Type 0
RecoversSteadyPieces = (start : LoopStart) (times : List ℕ) → IsStart start → IsHeld start
    → FollowsSteadyPieces start.nominal start.first times (recovered start times)

-- also where the loop holds the mean cell of the first turn, kept in the band
abbrev pub RecoversSteadyPiecesOfTurns : Type 0
RecoversSteadyPiecesOfTurns =
    (nominal turn_ticks ring_cells : ℕ) (times : List ℕ) → IsNominal nominal
    → FollowsSteadyPieces nominal (FINE_PER_TICK * turn_ticks / ring_cells) times
    (recovered (held (start_for nominal turn_ticks ring_cells)) times)

-- one piece alone
abbrev pub RecoversSteadyRings : Type 0
RecoversSteadyRings = (start : LoopStart) (times : List ℕ) → IsStart start → IsHeld start
    → FollowsSteadyRing start.nominal start.first times (recovered start times)

-- Streams whose transitions keep the bounds, and what their index times and their pieces
-- keep, in plain numbers again.
use Rattle.std.specs.Prelude.{◌≡◌, ◌<◌, ◌≤◌, ℕ, ◌+◌, ◌-◌, ◌*◌, ◌/◌, pos, ◌-ℤ◌, nat_abs, All, Bool}
use Rattle.std.specs.Prelude.{List, ◌∷◌, ◌++◌, flat_map, length, slice_index, None}
use Rattle.kryo_stream.specs.Stream.{first_fault, indexes, stream_length, times}
use Rattle.phase_loop.specs.Pieces.{Piece}
use Rattle.law_stated_captures.specs.Bounds.{KeepBounds}

-- the last of some numbers
abbrev pub last_of : List ℕ → ℕ
last_of xs = slice_index xs (length xs - 1)

-- the mean cell of the first turn, from the first index time to the
-- second, in fine units rounded down
abbrev pub first_mean : List ℕ → (ring_cells : ℕ) → ℕ
first_mean turns ring_cells = 1024 * (slice_index turns 1 - slice_index turns 0) / ring_cells

-- the first local period differs from a mean by at most one part in 64 of the nominal cell
abbrev pub StartsAt : (mean nominal : ℕ) → List ℕ → Type 0
StartsAt mean nominal periods = 64 * nat_abs (pos mean -ℤ pos (slice_index periods 0)) ≤ nominal

-- The bytes are one stream without a fault and nothing after it, wherever its index times lie. Its
-- transitions keep the bounds, from their first place on over two rings at least.
pub record StatedCapture (x : List ℕ) (ring : List Bool) (nominal : ℕ) : Type 0 where
  pub no_fault : first_fault x ≡ None
  pub whole : stream_length x ≡ length x
  pub places : List ℕ
  pub periods : List ℕ
  pub kept : KeepBounds (times x) ring nominal places periods
  pub two_rings : slice_index places 0 + 2 * length ring ≤ last_of places
  pub speed : StartsAt (first_mean (indexes x) (length ring)) nominal periods

-- the drive keeps its speed: each local period differs from a mean by at most one
-- part in 45 of the nominal cell
abbrev pub KeepsMean : (mean nominal : ℕ) → List ℕ → Type 0
KeepsMean mean nominal periods =
    (i : ℕ) → i < length periods → 45 * nat_abs (pos mean -ℤ pos (slice_index periods i)) ≤ nominal

-- that of the first turn, over the whole capture
abbrev pub IsStatedSteady : (x : List ℕ) (ring : List Bool) (nominal : ℕ)
    → StatedCapture x ring nominal → Type 0
IsStatedSteady x ring nominal stated =
    KeepsMean (first_mean (indexes x) (length ring)) nominal stated.periods

-- a piece of the transitions, which is not empty, keeps the bounds by itself
pub record IsStatedPiece (mean : ℕ) (ring : List Bool) (nominal : ℕ) (piece : Piece) : Type 0 where
  pub some : 0 < length piece.times
  pub kept : KeepBounds piece.times ring nominal piece.places piece.periods
  pub speed : StartsAt mean nominal piece.periods

-- The same in pieces, one or any number of them. From the last time of a piece to the first time of
-- the next there are at least 48 nominal cells.
pub record StatedErasedCapture (x : List ℕ) (ring : List Bool) (nominal : ℕ) : Type 0 where
  pub no_fault : first_fault x ≡ None
  pub whole : stream_length x ≡ length x
  pub pieces : List Piece
  pub some : 0 < length pieces
  pub cut : times x ≡ flat_map (λ piece. piece.times) pieces
  pub kept : All (IsStatedPiece (first_mean (indexes x) (length ring)) ring nominal) pieces
  pub apart : (before : List Piece) (piece next : Piece) (behind : List Piece)
      → before ++ piece ∷ next ∷ behind ≡ pieces
      → 1024 * last_of piece.times + 48 * nominal ≤ 1024 * slice_index next.times 0

-- the drive keeps the speed of the first turn in each piece
abbrev pub IsStatedSteadyErased : (x : List ℕ) (ring : List Bool) (nominal : ℕ)
    → StatedErasedCapture x ring nominal → Type 0
IsStatedSteadyErased x ring nominal stated =
    (before : List Piece) (piece : Piece) (behind : List Piece)
    → before ++ piece ∷ behind ≡ stated.pieces
    → KeepsMean (first_mean (indexes x) (length ring)) nominal piece.periods

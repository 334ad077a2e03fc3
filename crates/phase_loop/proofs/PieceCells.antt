-- Transitions that carry a ring in pieces are recovered as the pieces' cells, where the loop's period stays near each piece's clock.
use Rattle.std.proofs.Common.{◌≡◌, ℕ, suc, ◌+◌, ◌-◌, ◌*◌, ◌<◌, ◌≤◌, List, [], ◌∷◌, ◌++◌, length, drop, replicate, arith, refl, sym, ◌∙◌, ap, subst, add-one, append_assoc, length-drop, length-append, Bool, true, false, slice_index}
use Rattle.std.specs.List.{All, flat_map}
use Rattle.std.proofs.lemmas.Bool.{lt-ltb, cond-true}
use Rattle.std.proofs.lemmas.List.{append-nil, drop-drop, get_or-drop, get_or_append_left}
use Rattle.std.proofs.lemmas.List.Elements.{All-head, All-tail}
use Rattle.std.proofs.Math.Seq.{drop-append_seam}
use Rattle.cell_bits.specs.Run.{run_cells}
use Rattle.track_rings.specs.Rings.{IsSpaced, last_in, stretch}
use Rattle.phase_loop.specs.Start.{LONGEST}
use Rattle.phase_loop.specs.Rows.{Row, last_row, row_of_start, next_row, rows_to, rows_of, recovered}
use Rattle.phase_loop.specs.Pieces.{AreApart, CarryPieces, IsPiece, Piece, cells_of_piece, cells_of_pieces}
use Rattle.phase_loop.specs.declared.start.LoopStart.{LoopStart}
use Rattle.phase_loop.proofs.Times.{length-rows_to}
use Rattle.phase_loop.proofs.Nearness.{gap_far}
use Rattle.phase_loop.proofs.Clock.{IsClock}
use Rattle.phase_loop.proofs.Tracking.{StandsAt, first_stands}
use Rattle.phase_loop.proofs.Carrying.{HasWalked, cells_of_rows, cells-push, recovered-rows, walk}
use Rattle.phase_loop.proofs.PieceClocks.{IsFollowed, distance_of, fine_of, ideal_of, is_clock, local_of, neighbours, place_of}

-- the loop starts at a transition
record Starts (start : LoopStart) (times : List ℕ) (begin : ℕ) : Type 0 where
  pub rows : List Row
  pub cells : ℕ
  pub number : length rows ≡ begin
  pub are : rows_to start times begin ≡ rows ++ row_of_start start begin (1024 * slice_index times begin) cells ∷ []

-- a piece at whose first transition the loop starts, with the cells so far
module _ (start : LoopStart) (slack : ℕ) (least : 16384 ≤ start.nominal) (ring : List Bool) (spaced : IsSpaced 1 4 ring) (times : List ℕ) (piece : Piece)
    (followed : IsFollowed start slack ring piece) (rest : List ℕ) (begin : ℕ) (cut : drop begin times ≡ piece.times ++ rest)
    (starts : Starts start times begin) (front : List Bool) (cells : cells_of_rows (rows_to start times begin) ≡ front ++ true ∷ []) where
  abbrev count : ℕ
  count = length piece.times

  abbrev last : ℕ
  last = count - 1

  abbrev is : IsPiece start.nominal start.first ring piece
  is = followed.is

  abbrev fine : ℕ → ℕ
  fine = fine_of piece

  abbrev place : ℕ → ℕ
  place = place_of piece

  abbrev distance : ℕ → ℕ
  distance = distance_of piece

  abbrev local : ℕ → ℕ
  local = local_of piece

  abbrev ideal : ℕ → ℕ
  ideal = ideal_of piece ring start.nominal is.carried

  clock : IsClock start.nominal count fine place distance local ideal
  clock = is_clock start.nominal ring piece least spaced is.carried

  time_at : (i : ℕ) → i < count → 1024 * slice_index times (begin + i) ≡ fine i
  time_at i within =
      ap (λ (t : ℕ). 1024 * t)
      (sym (get_or-drop begin times i 0) ∙ ap (λ (ts : List ℕ). slice_index ts i) cut ∙ get_or_append_left piece.times rest 0 i within)

  first_at : StandsAt start.nominal slack fine place local ideal (rows_to start times begin) begin 0
  first_at =
      let here : begin + 0 ≡ begin = omega arith in
      let time : 1024 * slice_index times begin ≡ fine 0 = ap (λ (n : ℕ). 1024 * slice_index times n) (sym here) ∙ time_at 0 is.some in
      let are : rows_to start times begin ≡ starts.rows ++ row_of_start start (length starts.rows) (fine 0) starts.cells ∷ [] =
      starts.are
      ∙ ap (λ (n : ℕ). starts.rows ++ row_of_start start n (1024 * slice_index times begin) starts.cells ∷ []) (sym starts.number)
      ∙ ap (λ (n : ℕ). starts.rows ++ row_of_start start (length starts.rows) n starts.cells ∷ []) time in
      let there = first_stands start slack count fine place distance local ideal clock followed.pace starts.rows starts.cells is.some in
      subst (λ (n : ℕ). StandsAt start.nominal slack fine place local ideal (rows_to start times begin) n 0) starts.number
      (subst (λ (rows : List Row). StandsAt start.nominal slack fine place local ideal rows (length starts.rows) 0) (sym are) there)

  walked : (i : ℕ) → i < count → HasWalked start slack count fine place distance local ideal clock followed.pace ring
      (neighbours start.nominal ring piece least spaced is.carried) times begin time_at first_at i
  walked = walk start slack count fine place distance local ideal clock followed.pace ring
      (neighbours start.nominal ring piece least spaced is.carried) times begin time_at first_at

  last_within : last < count
  last_within = let some = is.some in omega (arith, some)

  whole : cells_of_piece ring piece ≡ true ∷ stretch ring (place 0 + 1) (place last - place 0)
  unfolding stretch
  whole =
      let way : ℕ = place last - place 0 in
      let end : last_in piece.places ≡ place last = ap (λ (n : ℕ). slice_index piece.places (n - 1)) is.carried.each_place in
      ap (λ (n : ℕ). stretch ring (place 0) (n - place 0 + 1)) end
      ∙ ap (stretch ring (place 0)) (add-one way)
      ∙ ap (λ (cell : Bool). cell ∷ stretch ring (place 0 + 1) way) (is.carried.ones 0 is.some)

  -- the cells up to the piece's last transition
  piece_cells : cells_of_rows (rows_to start times (begin + last)) ≡ front ++ cells_of_piece ring piece
  piece_cells =
      let cells_behind : List Bool = stretch ring (place 0 + 1) (place last - place 0) in
      (walked last last_within).cells
      ∙ ap (λ (cs : List Bool). cs ++ cells_behind) cells
      ∙ append_assoc front (true ∷ []) cells_behind
      ∙ ap (λ (cs : List Bool). front ++ cs) (sym whole)

  -- the next piece's first transition
  module _ (next : ℕ) (behind : List ℕ) (follows : rest ≡ next ∷ behind) (gap : 48 * start.nominal ≤ 1024 * (next - last_in piece.times)) where
    abbrev number : ℕ
    number = begin + last

    cut_next : drop (suc number) times ≡ next ∷ behind
    cut_next =
        let some = is.some in
        let e : begin + count ≡ suc number = omega (arith, some) in
        ap (λ (n : ℕ). drop n times) (sym e) ∙ sym (drop-drop count begin times) ∙ ap (drop count) cut ∙ drop-append_seam piece.times rest ∙ follows

    next_time : slice_index times (suc number) ≡ next
    next_time =
        let e : suc number + 0 ≡ suc number = omega arith in
        ap (slice_index times) (sym e) ∙ sym (get_or-drop (suc number) times 0 0) ∙ ap (λ (ts : List ℕ). slice_index ts 0) cut_next

    restarts : next_row start (rows_to start times number) (1024 * slice_index times (suc number))
        ≡ row_of_start start (suc number) (1024 * slice_index times (suc number)) LONGEST
    unfolding next_row
    restarts =
        let rows : List Row = rows_to start times number in
        let fine' : ℕ = 1024 * slice_index times (suc number) in
        let t = next_time in
        let apart : 48 * start.nominal ≤ fine' - fine last = omega (arith, t, gap) in
        let far = gap_far start.nominal slack (local last) (ideal last) (last_row rows).period (last_row rows).place (walked last last_within).stands.paced
        (walked last last_within).stands.placed (fine last) fine' (clock.speed last last_within) (clock.timed last last_within) apart in
        let many : length rows ≡ suc number = length-rows_to start times number ∙ add-one number in
        cond-true _ _ _ (lt-ltb _ _ far) ∙ ap (λ (n : ℕ). row_of_start start n fine' LONGEST) many

    next_starts : Starts start times (suc number)
    unfolding rows_to
    next_starts = record {
      rows = rows_to start times number;
      cells = LONGEST;
      number = length-rows_to start times number ∙ add-one number;
      are = ap (λ (row : Row). rows_to start times number ++ row ∷ []) restarts;
    }

    next_cells : cells_of_rows (rows_to start times (suc number)) ≡ (front ++ (cells_of_piece ring piece ++ replicate (LONGEST - 1) false)) ++ true ∷ []
    unfolding rows_to
    next_cells =
        let rows : List Row = rows_to start times number in
        let row : Row = next_row start rows (1024 * slice_index times (suc number)) in
        let piece_is : List Bool = cells_of_piece ring piece in
        let zeros : List Bool = replicate (LONGEST - 1) false in
        cells-push rows row (omega (arith, length-rows_to start times number))
        ∙ ap (λ (r : Row). cells_of_rows rows ++ run_cells r.count) restarts
        ∙ ap (λ (cs : List Bool). cs ++ (zeros ++ true ∷ [])) piece_cells
        ∙ append_assoc front piece_is (zeros ++ true ∷ [])
        ∙ ap (λ (cs : List Bool). front ++ cs) (sym (append_assoc piece_is zeros (true ∷ [])))
        ∙ sym (append_assoc front (piece_is ++ zeros) (true ∷ []))

-- a piece's times are its first and those after it
first_time : (piece : Piece) → 0 < length piece.times → piece.times ≡ slice_index piece.times 0 ∷ drop 1 piece.times
first_time piece some = go piece.times some
  where
    go : (times : List ℕ) → 0 < length times → times ≡ slice_index times 0 ∷ drop 1 times
    go [] more = absurd (omega arith)
    go (time ∷ times) more = refl

-- from a piece on
pieces_cells : (start : LoopStart) (slack : ℕ) (least : 16384 ≤ start.nominal) (ring : List Bool) (spaced : IsSpaced 1 4 ring) (times : List ℕ)
    (later : List Piece) (piece : Piece) → All (IsFollowed start slack ring) (piece ∷ later) → AreApart start.nominal piece later
    → (begin : ℕ) → drop begin times ≡ flat_map (λ (p : Piece). p.times) (piece ∷ later) → Starts start times begin
    → (front : List Bool) → cells_of_rows (rows_to start times begin) ≡ front ++ true ∷ []
    → cells_of_rows (rows_of start times) ≡ front ++ cells_of_pieces ring piece later
pieces_cells start slack least ring spaced times [] piece all apart begin cut starts front cells =
    let is : IsFollowed start slack ring piece = All-head (IsFollowed start slack ring) piece [] all in
    let some = is.is.some in
    let size = ap length cut ∙ ap length (append-nil piece.times) in
    let end : length times - 1 ≡ begin + (length piece.times - 1) = omega (arith, size, length-drop begin times, some) in
    ap (λ (n : ℕ). cells_of_rows (rows_to start times n)) end
    ∙ piece_cells start slack least ring spaced times piece is [] begin cut starts front cells
    ∙ ap (λ (cs : List Bool). front ++ cs) (sym (append-nil (cells_of_piece ring piece)))
pieces_cells start slack least ring spaced times (next ∷ later) piece all apart begin cut starts front cells =
    let P : Piece → Type 0 = IsFollowed start slack ring in
    let is : P piece = All-head P piece (next ∷ later) all in
    let after : All P (next ∷ later) = All-tail P piece (next ∷ later) all in
    let next_is : P next = All-head P next later after in
    let rest : List ℕ = flat_map (λ (p : Piece). p.times) (next ∷ later) in
    let behind : List ℕ = drop 1 next.times ++ flat_map (λ (p : Piece). p.times) later in
    let follows : rest ≡ slice_index next.times 0 ∷ behind =
    ap (λ (ts : List ℕ). ts ++ flat_map (λ (p : Piece). p.times) later) (first_time next next_is.is.some) in
    let begin' : ℕ = suc (begin + (length piece.times - 1)) in
    let zeros : List Bool = replicate (LONGEST - 1) false in
    let own : List Bool = cells_of_piece ring piece in
    let others : List Bool = flat_map (λ (p : Piece). zeros ++ cells_of_piece ring p) later in
    let more = pieces_cells start slack least ring spaced times later next after apart.1 begin'
    (cut_next start slack least ring spaced times piece is rest begin cut starts front cells (slice_index next.times 0) behind follows apart.0 ∙ sym follows)
    (next_starts start slack least ring spaced times piece is rest begin cut starts front cells (slice_index next.times 0) behind follows apart.0)
    (front ++ (own ++ zeros))
    (next_cells start slack least ring spaced times piece is rest begin cut starts front cells (slice_index next.times 0) behind follows apart.0) in
    more
    ∙ append_assoc front (own ++ zeros) (cells_of_piece ring next ++ others)
    ∙ ap (λ (cs : List Bool). front ++ cs)
    (append_assoc own zeros (cells_of_piece ring next ++ others)
    ∙ ap (λ (cs : List Bool). own ++ cs) (sym (append_assoc zeros (cells_of_piece ring next) others)))

-- the recovered cells are those of the pieces
pub pieces_followed : (start : LoopStart) (slack : ℕ) (times : List ℕ) (ring : List Bool) (first : Piece) (later : List Piece) → 16384 ≤ start.nominal
    → IsSpaced 1 4 ring → CarryPieces start.nominal start.first ring times first later → All (IsFollowed start slack ring) (first ∷ later)
    → recovered start times ≡ cells_of_pieces ring first later
unfolding rows_to
pieces_followed start slack times ring first later least spaced carry all =
    let is : IsFollowed start slack ring first = All-head (IsFollowed start slack ring) first later all in
    let some = is.is.some in
    let size = ap length carry.cut in
    let many : 0 < length times = omega (arith, size, some, length-append first.times (flat_map (λ (p : Piece). p.times) later)) in
    let starts : Starts start times 0 = record { rows = []; cells = 0; number = refl; are = refl } in
    recovered-rows start times many
    ∙ pieces_cells start slack least ring spaced times later first all carry.apart 0 carry.cut starts [] refl

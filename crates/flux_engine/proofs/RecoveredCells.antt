-- The cells that are recovered from a track's transitions.
use Rattle.std.specs.Prelude.{◌≡◌, ◌≤◌, ℕ, zero, suc, ◌+◌, ◌-◌, ◌*◌, Bool, true, false, List, [], ◌∷◌, ◌++◌, All, length, take, drop, flat_map, replicate, slice_index, if◌then◌else◌, refl}
use Rattle.std.proofs.Common.{ap, ◌∙◌, arith, add-one, inl, inr, length-append, length-drop, lit≤}
use Rattle.std.proofs.lemmas.List.{length-replicate, length_push, length-map}
use Rattle.std.proofs.lemmas.List.Elements.{All-drop, All-map, All-head, All-tail, All-push, All-replicate}
use Rattle.std.proofs.lemmas.List.Sums.{sum_by-append, sum_by-cons}
use Rattle.std.proofs.lemmas.Bool.{cases_lt, lt-ltb, le-ltb}
use Rattle.cell_bits.specs.Ones.{ones}
use Rattle.cell_bits.specs.Run.{run_cells}
use Rattle.phase_loop.specs.Rows.{Row, row_of_start, next_row, row_at_distance, last_row, periods_since, rows_to, rows_of, counts, recovered}
use Rattle.phase_loop.specs.declared.start.LoopStart.{LoopStart}
use Rattle.flux_engine.specs.Gathering.{AreCellsOf}

ones-append : (xs ys : List Bool) → ones (xs ++ ys) ≡ ones xs + ones ys
ones-append xs ys = sum_by-append (λ (cell : Bool). if cell then 1 else 0) xs ys

ones-cons : (cell : Bool) (cells : List Bool) → ones (cell ∷ cells) ≡ (if cell then 1 else 0) + ones cells
ones-cons cell cells = sum_by-cons (λ (c : Bool). if c then 1 else 0) cell cells

ones-zeros : (n : ℕ) → ones (replicate n false) ≡ 0
ones-zeros zero = refl
ones-zeros (suc n) = ones-cons false (replicate n false) ∙ (omega (arith, ones-zeros n))

ones-run : (n : ℕ) → ones (run_cells n) ≡ 1
ones-run n =
    ones-append (replicate (n - 1) false) (true ∷ []) ∙ (let zeros = ones-zeros (n - 1) in omega (arith, zeros))

ones-runs : (ns : List ℕ) → ones (flat_map run_cells ns) ≡ length ns
ones-runs [] = refl
ones-runs (n ∷ ns) =
    ones-append (run_cells n) (flat_map run_cells ns) ∙ (omega (arith, ones-run n, ones-runs ns))

length-run : (n : ℕ) → n ≤ 32 → length (run_cells n) ≤ 32
length-run n most =
    let whole = length-append (replicate (n - 1) false) (true ∷ []) in
    let zeros = length-replicate (n - 1) false in
    omega (arith, whole, zeros)

length-runs : (ns : List ℕ) → All (λ n. n ≤ 32) ns → length (flat_map run_cells ns) ≤ 32 * length ns
length-runs [] most = omega arith
length-runs (n ∷ ns) most =
    let whole = length-append (run_cells n) (flat_map run_cells ns) in
    let here = length-run n (All-head (λ (k : ℕ). k ≤ 32) n ns most) in
    let rest = length-runs ns (All-tail (λ (k : ℕ). k ≤ 32) n ns most) in
    omega (arith, whole, here, rest)

-- a count is at most 32
most_by_test : (start : LoopStart) (rows : List Row) (before : Row) (fine periods : ℕ) → (row_at_distance start rows before fine periods).count ≤ 32
most_by_test start rows before fine periods =
    elim (cases_lt 32 periods) [
      | inl far ↦ rw (lt-ltb _ _ far) (omega arith)
      | inr near ↦ rw (le-ltb _ _ near) (omega arith)
    ]

short_rows : (start : LoopStart) (times : List ℕ) (number : ℕ) → All (λ (row : Row). row.count ≤ 32) (rows_to start times number)
unfolding rows_to next_row
short_rows start times zero =
    All-replicate (λ (row : Row). row.count ≤ 32) 1 (row_of_start start 0 (1024 * slice_index times 0) 0) (lit≤ tt)
short_rows start times (suc number) =
    let rows = rows_to start times number in
    let fine : ℕ = 1024 * slice_index times (suc number) in
    All-push (λ (row : Row). row.count ≤ 32) rows (next_row start rows fine) (short_rows start times number)
    (most_by_test start rows (last_row rows) fine (periods_since (last_row rows) fine))

length-rows : (start : LoopStart) (times : List ℕ) (number : ℕ) → length (rows_to start times number) ≡ number + 1
unfolding rows_to
length-rows start times zero = refl
length-rows start times (suc number) =
    omega (arith, length_push (rows_to start times number) (next_row start (rows_to start times number) (1024 * slice_index times (suc number))), length-rows start times number)

length-counts : (start : LoopStart) (times : List ℕ) → length (counts start times) ≡ length times - 1
length-counts start times =
    let rows = rows_of start times in
    length-map (drop 1 rows) (λ (row : Row). row.count) ∙ length-drop 1 rows ∙ (omega (arith, length-rows start times (length times - 1)))

short_counts : (start : LoopStart) (times : List ℕ) → All (λ (n : ℕ). n ≤ 32) (counts start times)
short_counts start times =
    let rows = rows_of start times in
    All-map (λ (n : ℕ). n ≤ 32) (λ (row : Row). row.count) (drop 1 rows)
    (All-drop (λ (row : Row). row.count ≤ 32) 1 rows (short_rows start times (length times - 1)))

first_one : (rest : List Bool) (place : ℕ) → 1 ≤ ones (take (place + 1) (true ∷ rest))
first_one rest place =
    let same : ones (take (place + 1) (true ∷ rest)) ≡ 1 + ones (take place rest) =
    ap (λ (n : ℕ). ones (take n (true ∷ rest))) (add-one place) ∙ ones-cons true (take place rest) in
    omega (arith, same)

-- the cells of so many transitions
pub are_cells : (start : LoopStart) (times : List ℕ) → length times ≤ 4194304 → AreCellsOf times (recovered start times)
unfolding recovered
are_cells start [] few = record { each = refl; first = λ place within. absurd (omega arith); few = omega arith }
are_cells start (time ∷ times) few =
    let ns = counts start (time ∷ times) in
    let many = length-counts start (time ∷ times) in
    record {
      each = ones-cons true (flat_map run_cells ns) ∙ (omega (arith, ones-runs ns, many));
      first = λ place within. first_one (flat_map run_cells ns) place;
      few = omega (arith, length-runs ns (short_counts start (time ∷ times)), many);
    }

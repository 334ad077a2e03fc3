-- How many cells are recovered at most.
use Rattle.std.specs.Prelude.{◌≡◌, ℕ, zero, suc, ◌+◌, ◌-◌, ◌*◌, ◌≤◌, All, List, [], ◌∷◌, drop, length, map, replicate, false, true, slice_index}
use Rattle.std.specs.List.{flat_map}
use Rattle.std.proofs.Common.{arith, inl, inr, length-append, length-drop}
use Rattle.std.proofs.lemmas.List.{length-replicate}
use Rattle.std.proofs.lemmas.Bool.{cases_lt, le-ltb, lt-ltb}
use Rattle.std.proofs.lemmas.List.Elements.{All-append, All-cons, All-drop, All-head, All-nil, All-tail}
use Rattle.cell_bits.specs.Run.{run_cells}
use Rattle.phase_loop.specs.Rows.{Row, last_row, next_row, periods_since, recovered, row_at_distance, rows_to}
use Rattle.phase_loop.specs.Sizes.{CellsAreFew}
use Rattle.phase_loop.specs.Start.{FINE_PER_TICK}
use Rattle.phase_loop.specs.declared.start.LoopStart.{LoopStart}

abbrev IsFew : Row → Type 0
IsFew row = row.count ≤ 32

few_by_test : (start : LoopStart) (rows : List Row) (before : Row) (fine periods : ℕ) → IsFew (row_at_distance start rows before fine periods)
few_by_test start rows before fine periods =
    elim (cases_lt 32 periods) [
      | inl far ↦ rw (lt-ltb _ _ far) (omega arith)
      | inr near ↦ rw (le-ltb _ _ near) near
    ]

next_few : (start : LoopStart) (rows : List Row) (fine : ℕ) → IsFew (next_row start rows fine)
unfolding next_row
next_few start rows fine = few_by_test start rows (last_row rows) fine (periods_since (last_row rows) fine)

-- the counts of all rows, and how many rows there are
record AreFew (rows : List Row) (n : ℕ) : Type 0 where
  each : All IsFew rows
  many : length rows ≡ n + 1

rows_few : (start : LoopStart) (times : List ℕ) (n : ℕ) → AreFew (rows_to start times n) n
unfolding rows_to
rows_few start times zero = record { each = All-cons IsFew _ [] (omega arith) (All-nil IsFew); many = omega arith }
rows_few start times (suc n) =
    let before = rows_few start times n in
    let rows = rows_to start times n in
    let fine : ℕ = FINE_PER_TICK * slice_index times (suc n) in
    let next : Row = next_row start rows fine in record {
      each = All-append IsFew rows (next ∷ []) before.each (All-cons IsFew next [] (next_few start rows fine) (All-nil IsFew));
      many = omega (arith, before.many, length-append rows (next ∷ []));
    }

run-few : (count : ℕ) → count ≤ 32 → length (run_cells count) ≤ 32
run-few count few = omega (arith, few, length-append (replicate (count - 1) false) (true ∷ []), length-replicate (count - 1) false)

runs-few : (rows : List Row) → All IsFew rows → length (flat_map run_cells (map (λ (row : Row). row.count) rows)) ≤ 32 * length rows
runs-few [] each = omega arith
runs-few (row ∷ rows) each =
    let here = run-few row.count (All-head IsFew row rows each) in
    let rest = runs-few rows (All-tail IsFew row rows each) in
    let both = length-append (run_cells row.count) (flat_map run_cells (map (λ (r : Row). r.count) rows)) in
    omega (arith, here, rest, both)

pub cells_are_few : CellsAreFew
unfolding recovered
cells_are_few start [] = omega arith
cells_are_few start (time ∷ times) =
    let last : ℕ = length (time ∷ times) - 1 in
    let rows = rows_few start (time ∷ times) last in
    let all : List Row = rows_to start (time ∷ times) last in
    let few = runs-few (drop 1 all) (All-drop IsFew 1 all rows.each) in
    let many = length-drop 1 all in
    omega (arith, few, many, rows.many)

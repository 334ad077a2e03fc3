-- The intervals that a loop holds are those between the last of the times.
use Rattle.std.proofs.Common.{◌≡◌, ℕ, zero, suc, ◌+◌, ◌-◌, ◌*◌, ◌<◌, ◌≤◌, List, [], ◌∷◌, length, take, drop, arith, refl, sym, ◌∙◌, ap, subst, inl, inr, slice_index, length-drop}
use Rattle.std.specs.List.Sorted.{IsNonDecreasing}
use Rattle.std.proofs.lemmas.Bool.{cases_lt}
use Rattle.std.proofs.lemmas.List.{drop-drop, drop_more, get_or-drop, get_or-take, get_or_append_left, length-take-le}
use Rattle.cell_bits.specs.State.{CellsState}
use Rattle.phase_loop.specs.Rows.{Row, no_row, row_at, last_row, next_row, rows_to, rows_of}
use Rattle.phase_loop.specs.State.{LoopState, interval_between, intervals, state_behind, Holds}
use Rattle.phase_loop.specs.inside.Appended.{IsAppended}
use Rattle.phase_loop.specs.inside.Stretch.{interval_at, intervals_with, counts_of, AreBetween}
use Rattle.phase_loop.specs.declared.start.LoopStart.{LoopStart}
use Rattle.phase_loop.specs.declared.window.Interval.{Interval}
use Rattle.phase_loop.proofs.Intervals.{length-intervals, drop-intervals}
use Rattle.phase_loop.proofs.Times.{length-rows_to, known}

-- each row has its transition's time
row_fine : (start : LoopStart) (times : List ℕ) (number k : ℕ) → IsNonDecreasing times → number < length times → k ≤ number
    → (row_at (rows_to start times number) k).fine ≡ 1024 * slice_index times k
unfolding rows_to
row_fine start times zero k rising within least =
    let first : k ≡ 0 = omega (arith, least) in
    rw first refl
row_fine start times (suc number) k rising within least =
    let rows : List Row = rows_to start times number in
    let row : Row = next_row start rows (1024 * slice_index times (suc number)) in
    elim (cases_lt k (suc number)) [
      | inl before ↦
          ap (λ (r : Row). r.fine) (get_or_append_left rows (row ∷ []) no_row k (omega (arith, before, length-rows_to start times number)))
          ∙ row_fine start times number k rising (omega (arith, within)) (omega (arith, before))
      | inr last ↦
          let is : k ≡ suc number = omega (arith, last, least) in
          let place : length (rows_to start times (suc number)) - 1 ≡ suc number = omega (arith, length-rows_to start times (suc number)) in
          let end = (known start times (suc number) rising within).last in
          rw is (ap (λ (n : ℕ). (row_at (rows_to start times (suc number)) n).fine) (sym place) ∙ end)
    ]

-- the intervals from rows with these times
intervals_are : (times : List ℕ) (number : ℕ) (row : Row) (rows : List Row)
    → ((k : ℕ) → k < length (row ∷ rows) → (row_at (row ∷ rows) k).fine ≡ 1024 * slice_index times (number + k))
    → intervals (row ∷ rows) ≡ intervals_with times number (counts_of (intervals (row ∷ rows)))
intervals_are times number row [] timed = refl
intervals_are times number row (next ∷ rows) timed =
    let mk : (late early : ℕ) → Interval = λ late early. record { fine = late - early; count = next.count } in
    let here : row.fine ≡ 1024 * slice_index times number =
    let same : number + 0 ≡ number = omega arith in
    timed 0 (omega arith) ∙ ap (λ (k : ℕ). 1024 * slice_index times k) same in
    let later : next.fine ≡ 1024 * slice_index times (number + 1) = timed 1 (omega arith) in
    let rest : intervals (next ∷ rows) ≡ intervals_with times (number + 1) (counts_of (intervals (next ∷ rows))) =
    intervals_are times (number + 1) next rows
    (λ k within.
    let same : number + suc k ≡ number + 1 + k = omega arith in
    timed (suc k) (omega (arith, within)) ∙ ap (λ (n : ℕ). 1024 * slice_index times n) same) in
    let head : interval_between row next ≡ interval_at times number next.count =
    ap (λ (f : ℕ). mk f row.fine) later ∙ ap (λ (f : ℕ). mk (1024 * slice_index times (number + 1)) f) here in
    ap (λ (i : Interval). i ∷ intervals (next ∷ rows)) head
    ∙ ap (λ (is : List Interval). interval_at times number next.count ∷ is) rest

-- a full window's intervals are those between the last 65 times
pub held_between : (start : LoopStart) (times : List ℕ) (last : ℕ) (state : LoopState)
    → last < length times → Holds state start (take (last + 1) times) → length state.recent ≡ 64
    → AreBetween times last state.recent
unfolding state_behind
held_between start times last state within holds full =
    let so_far : List ℕ = take (last + 1) times in
    let many : length so_far ≡ last + 1 = length-take-le (last + 1) times (omega (arith, within)) in
    let rows : List Row = rows_of start so_far in
    let end : length so_far - 1 ≡ last = omega (arith, many) in
    let rows_are : length rows ≡ last + 1 = omega (arith, length-rows_to start so_far (length so_far - 1), end) in
    let all : List Interval = intervals rows in
    let restart : ℕ = (last_row rows).restart in
    let since : List Interval = drop restart all in
    let recent : state.recent ≡ drop (length since - 64) since = ap (λ (s : LoopState). s.recent) holds.values in
    let k : ℕ = last - 64 in
    let kept : length since - (length since - 64) ≡ 64 = sym (length-drop (length since - 64) since) ∙ ap length (sym recent) ∙ full in
    let enough : 64 ≤ last = omega (arith, kept, length-drop restart all, length-intervals rows, rows_are) in
    let skipped : restart + (length since - 64) ≡ k = omega (arith, kept, length-drop restart all, length-intervals rows, rows_are) in
    let inside : k < length rows = omega (arith, rows_are) in
    let split : drop k rows ≡ row_at rows k ∷ drop (k + 1) rows = drop_more rows k no_row inside in
    let is : state.recent ≡ intervals (row_at rows k ∷ drop (k + 1) rows) =
    recent
    ∙ drop-drop (length since - 64) restart all
    ∙ ap (λ (n : ℕ). drop n all) skipped
    ∙ drop-intervals k rows inside
    ∙ ap intervals split in
    let timed : (j : ℕ) → j < length (row_at rows k ∷ drop (k + 1) rows) → (row_at (row_at rows k ∷ drop (k + 1) rows) j).fine ≡ 1024 * slice_index times (k + j) =
    λ j short.
    let far : k + j ≤ last = omega (arith, short, length-drop (k + 1) rows, rows_are) in
    ap (λ (l : List Row). (row_at l j).fine) (sym split)
    ∙ ap (λ (r : Row). r.fine) (get_or-drop k rows j no_row)
    ∙ row_fine start so_far (length so_far - 1) (k + j) holds.rising (omega (arith, many)) (omega (arith, far, end))
    ∙ ap (λ (t : ℕ). 1024 * t) (get_or-take (last + 1) times (k + j) 0 (omega (arith, far))) in
    let P : List Interval → Type 0 = λ l. l ≡ intervals_with times k (counts_of l) in
    record {
      enough = enough;
      are = subst P (sym is) (intervals_are times k (row_at rows k) (drop (k + 1) rows) timed);
    }

pub appended_between : (start : LoopStart) (times : List ℕ) (last : ℕ) (bench : LoopState) (before cells : CellsState)
    → IsAppended start times last bench before cells → last < length times → length bench.recent ≡ 64
    → AreBetween times last bench.recent
appended_between start times last bench before cells appended within full =
    held_between start times last bench within appended.holds full

-- The intervals between rows: what one more row adds, and their totals from two times.
use Rattle.std.proofs.Common.{◌≡◌, ℕ, zero, suc, ◌+◌, ◌-◌, ◌<◌, ◌≤◌, List, [], ◌∷◌, ◌++◌, length, drop, get_or, arith, refl, sym, ◌∙◌, ap, length-drop}
use Rattle.std.specs.List.{sum_by}
use Rattle.std.specs.List.Sorted.{IsNonDecreasingBy}
use Rattle.std.proofs.lemmas.List.{length_push, get_or_push, drop-drop, drop-append-le}
use Rattle.std.proofs.lemmas.List.Sorted.{IsNonDecreasingBy-drop}
use Rattle.std.proofs.lemmas.List.Sums.{sum_by-cons}
use Rattle.circular_buffer.specs.Buffer.{keep_last}
use Rattle.phase_loop.specs.Rows.{Row, no_row, last_row}
use Rattle.phase_loop.specs.State.{interval_between, intervals}
use Rattle.phase_loop.specs.inside.Window.{fine_total, count_total}
use Rattle.phase_loop.specs.declared.window.Interval.{Interval}

pub last_row-push : (rows : List Row) (row : Row) → last_row (rows ++ row ∷ []) ≡ row
last_row-push rows row =
    get_or_push rows row _ (length (rows ++ row ∷ []) - 1) (omega (arith, length_push rows row))

pub last_row-cons : (before row : Row) (rows : List Row) → last_row (before ∷ row ∷ rows) ≡ last_row (row ∷ rows)
last_row-cons before row rows =
    let next : length (before ∷ row ∷ rows) - 1 ≡ suc (length (row ∷ rows) - 1) = omega arith in
    ap (λ (n : ℕ). get_or (before ∷ row ∷ rows) n no_row) next

pub intervals-push : (rows : List Row) (row : Row) → 0 < length rows
    → intervals (rows ++ row ∷ []) ≡ intervals rows ++ interval_between (last_row rows) row ∷ []
intervals-push [] row some = absurd (omega arith)
intervals-push (before ∷ []) row some = refl
intervals-push (before ∷ next ∷ rows) row some =
    rw last_row-cons (ap (λ (is : List Interval). interval_between before next ∷ is) (intervals-push (next ∷ rows) row (omega arith)))

pub length-intervals : (rows : List Row) → length (intervals rows) ≡ length rows - 1
length-intervals [] = refl
length-intervals (before ∷ []) = refl
length-intervals (before ∷ next ∷ rows) = omega (arith, length-intervals (next ∷ rows))

pub drop-intervals : (k : ℕ) (rows : List Row) → k < length rows → drop k (intervals rows) ≡ intervals (drop k rows)
drop-intervals zero rows within = refl
drop-intervals (suc k) [] within = absurd (omega arith)
drop-intervals (suc k) (before ∷ []) within = absurd (omega arith)
drop-intervals (suc k) (before ∷ next ∷ rows) within = drop-intervals k (next ∷ rows) (omega arith)

-- the total of the times is the way from the first to the last
pub fine_total-intervals : (row : Row) (rows : List Row) → IsNonDecreasingBy (λ (r : Row). r.fine) (row ∷ rows)
    → fine_total (intervals (row ∷ rows)) + row.fine ≡ (last_row (row ∷ rows)).fine
fine_total-intervals row [] rising = omega arith
fine_total-intervals row (next ∷ rows) rising =
    let rest = fine_total-intervals next rows (IsNonDecreasingBy-drop (λ (r : Row). r.fine) 1 (row ∷ next ∷ rows) rising) in
    let up : row.fine ≤ next.fine = rising 0 1 row (omega arith) (omega arith) in
    let head = sum_by-cons (λ (i : Interval). i.fine) (interval_between row next) (intervals (next ∷ rows)) in
    rw last_row-cons (omega (arith, rest, up, head))

pub count_total-intervals : (row : Row) (rows : List Row)
    → count_total (intervals (row ∷ rows)) ≡ sum_by (λ (r : Row). r.count) rows
count_total-intervals row [] = refl
count_total-intervals row (next ∷ rows) =
    omega (arith, count_total-intervals next rows, sum_by-cons (λ (i : Interval). i.count) (interval_between row next) (intervals (next ∷ rows)), sum_by-cons (λ (r : Row). r.count) next rows)

-- the last n, of the last n and one more
pub keep_last-push : (n : ℕ) (xs : List Interval) (x : Interval)
    → keep_last n (keep_last n xs ++ x ∷ []) ≡ keep_last n (xs ++ x ∷ [])
keep_last-push n xs x =
    let kept : List Interval = drop (length xs - n) xs in
    let k : ℕ = length (kept ++ x ∷ []) - n in
    let inside : length xs - n ≤ length xs = omega arith in
    let split : drop (length xs - n) (xs ++ x ∷ []) ≡ kept ++ x ∷ [] = drop-append-le (length xs - n) xs (x ∷ []) inside in
    let whole : length (xs ++ x ∷ []) - n ≡ (length xs - n) + k =
    omega (arith, length_push xs x, length_push kept x, length-drop (length xs - n) xs) in
    ap (λ (l : List Interval). drop k l) (sym split)
    ∙ drop-drop k (length xs - n) (xs ++ x ∷ [])
    ∙ ap (λ (m : ℕ). drop m (xs ++ x ∷ [])) (sym whole)

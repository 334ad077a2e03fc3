-- One more row, and one step of what a loop holds.
use Rattle.std.proofs.Common.{◌≡◌, ℕ, ◌+◌, ◌-◌, ◌*◌, ◌/◌, ◌<◌, ◌≤◌, min, List, [], ◌∷◌, ◌++◌, length, drop, get_or, arith, refl, sym, ◌∙◌, ap, subst, inl, inr, Bool, true, false, nat_lt, if◌then◌else◌, length-drop}
use Rattle.std.specs.List.{sum_by}
use Rattle.std.specs.List.Sorted.{IsNonDecreasingBy}
use Rattle.std.proofs.lemmas.Bool.{lt-ltb, le-ltb, cases_lt, cond-true, cond-false}
use Rattle.std.proofs.lemmas.List.{length_push, drop-drop, drop-append-le, drop_all, get_or-drop, drop_more, get_or_default}
use Rattle.std.proofs.lemmas.List.Sorted.{IsNonDecreasingBy-drop, IsNonDecreasingBy-push}
use Rattle.std.proofs.lemmas.List.Sums.{sum_by_push}
use Rattle.circular_buffer.specs.Buffer.{keep_last}
use Rattle.phase_loop.specs.Start.{in_band}
use Rattle.phase_loop.specs.Rows.{Row, no_row, row_at, last_row, row_of_start, row_at_distance, periods_since, period_behind, next_row, with_next_row}
use Rattle.phase_loop.specs.State.{LoopState, interval_between, intervals, state_behind}
use Rattle.phase_loop.specs.inside.Step.{restarted, recent_after, period_from, joined, state_after, count_after}
use Rattle.phase_loop.specs.inside.Window.{fine_total, count_total}
use Rattle.phase_loop.specs.declared.start.LoopStart.{LoopStart}
use Rattle.phase_loop.specs.declared.window.Interval.{Interval}
use Rattle.phase_loop.proofs.Intervals.{last_row-push, intervals-push, length-intervals, drop-intervals, fine_total-intervals, count_total-intervals, keep_last-push}

-- what holds of the rows of any list of times that never falls
pub record IsHistory (rows : List Row) : Type 0 where
  pub some : 0 < length rows
  pub restart : (last_row rows).restart < length rows
  pub rising : IsNonDecreasingBy (λ (r : Row). r.fine) rows

-- the state after one more row
unfoldable state_with : LoopStart → List Row → Row → LoopState
state_with start rows row = record {
  first = start.first;
  band = start.band;
  fine = row.fine;
  place = row.place;
  period = row.period;
  recent = keep_last 64 (drop row.restart (intervals rows ++ interval_between (last_row rows) row ∷ []));
}

state_behind-push : (start : LoopStart) (rows : List Row) (row : Row) → 0 < length rows
    → state_behind start (rows ++ row ∷ []) ≡ state_with start rows row
unfolding state_behind state_with
state_behind-push start rows row some = rw (last_row-push, intervals-push) refl

-- where the loop starts anew
state_with-restart : (start : LoopStart) (rows : List Row) (fine : ℕ) → 0 < length rows
    → state_with start rows (row_of_start start (length rows) fine 32) ≡ restarted (state_behind start rows) fine
unfolding state_behind state_with
state_with-restart start rows fine some =
    let row = row_of_start start (length rows) fine 32 in
    let all : List Interval = intervals rows ++ interval_between (last_row rows) row ∷ [] in
    let none : drop (length rows) all ≡ [] =
    drop_all (length rows) all (omega (arith, length_push (intervals rows) (interval_between (last_row rows) row), length-intervals rows)) in
    rw none refl

-- the interval that ends at the time
abbrev interval_to : List Row → (fine periods : ℕ) → Interval
interval_to rows fine periods = record { fine = fine - (last_row rows).fine; count = periods }

within_intervals : (rows : List Row) → IsHistory rows → (last_row rows).restart ≤ length (intervals rows)
within_intervals rows history = omega (arith, length-intervals rows, history.restart)

-- the intervals since the restart, with one more
since : (rows : List Row) (x : Interval) → IsHistory rows
    → drop (last_row rows).restart (intervals rows) ++ x ∷ [] ≡ drop (last_row rows).restart (intervals rows ++ x ∷ [])
since rows x history = sym (drop-append-le (last_row rows).restart (intervals rows) (x ∷ []) (within_intervals rows history))

recent_after-behind : (start : LoopStart) (rows : List Row) (fine periods : ℕ) → IsHistory rows
    → recent_after (state_behind start rows) fine periods
    ≡ keep_last 64 (drop (last_row rows).restart (intervals rows ++ interval_to rows fine periods ∷ []))
unfolding state_behind
recent_after-behind start rows fine periods history =
    let x = interval_to rows fine periods in
    keep_last-push 64 (drop (last_row rows).restart (intervals rows)) x
    ∙ ap (λ (l : List Interval). keep_last 64 l) (since rows x history)

-- how many intervals there are
length-recent : (rows : List Row) (x : Interval) → IsHistory rows
    → length (keep_last 64 (drop (last_row rows).restart (intervals rows ++ x ∷ [])))
    ≡ min 64 (length rows - (last_row rows).restart)
length-recent rows x history =
    let all : List Interval = intervals rows ++ x ∷ [] in
    let some : List Interval = drop (last_row rows).restart all in
    omega (arith, length-drop (length some - 64) some, length-drop (last_row rows).restart all, length_push (intervals rows) x, length-intervals rows, history.restart, history.some)

-- once there are 64, they are those after the 64th row before the last
recent-full : (rows : List Row) (x : Interval) → IsHistory rows → 64 ≤ length rows - (last_row rows).restart
    → keep_last 64 (drop (last_row rows).restart (intervals rows ++ x ∷ [])) ≡ intervals (drop (length rows - 64) rows) ++ x ∷ []
recent-full rows x history enough =
    let s : ℕ = (last_row rows).restart in
    let k : ℕ = length rows - 64 in
    let all : List Interval = intervals rows ++ x ∷ [] in
    let skipped : s + (length (drop s all) - 64) ≡ k =
    omega (arith, length-drop s all, length_push (intervals rows) x, length-intervals rows, history.some) in
    let inside : k ≤ length (intervals rows) = omega (arith, length-intervals rows) in
    let short : k < length rows = omega (arith, history.some) in
    drop-drop (length (drop s all) - 64) s all
    ∙ ap (λ (n : ℕ). drop n all) skipped
    ∙ drop-append-le k (intervals rows) (x ∷ []) inside
    ∙ ap (λ (l : List Interval). l ++ x ∷ []) (drop-intervals k rows short)

-- the last of the rows from one on is the last of all
last_row-drop : (k : ℕ) (rows : List Row) → k < length rows → last_row (drop k rows) ≡ last_row rows
last_row-drop k rows within =
    let place : k + (length (drop k rows) - 1) ≡ length rows - 1 = omega (arith, length-drop k rows) in
    get_or-drop k rows (length (drop k rows) - 1) no_row ∙ ap (λ (n : ℕ). get_or rows n no_row) place

-- the totals of the intervals after a row
record Totals (rows : List Row) (k : ℕ) : Type 0 where
  pub fine : fine_total (intervals (drop k rows)) + (row_at rows k).fine ≡ (last_row rows).fine
  pub count : count_total (intervals (drop k rows)) ≡ sum_by (λ (r : Row). r.count) (drop (k + 1) rows)

totals : (rows : List Row) (k : ℕ) → k < length rows → IsNonDecreasingBy (λ (r : Row). r.fine) rows → Totals rows k
totals rows k within rising =
    let split : drop k rows ≡ row_at rows k ∷ drop (k + 1) rows = drop_more rows k no_row within in
    let from : IsNonDecreasingBy (λ (r : Row). r.fine) (row_at rows k ∷ drop (k + 1) rows) =
    let P : List Row → Type 0 = λ l. IsNonDecreasingBy (λ (r : Row). r.fine) l in
    subst P split (IsNonDecreasingBy-drop (λ (r : Row). r.fine) k rows rising) in
    let fine = fine_total-intervals (row_at rows k) (drop (k + 1) rows) from in
    let last : last_row (row_at rows k ∷ drop (k + 1) rows) ≡ last_row rows =
    ap last_row (sym split) ∙ last_row-drop k rows within in
    record {
      fine = ap (λ (l : List Row). fine_total (intervals l) + (row_at rows k).fine) split ∙ fine ∙ ap (λ (r : Row). r.fine) last;
      count = ap (λ (l : List Row). count_total (intervals l)) split ∙ count_total-intervals (row_at rows k) (drop (k + 1) rows);
    }

period-behind : (start : LoopStart) (rows : List Row) (fine periods : ℕ) → IsHistory rows → (last_row rows).fine ≤ fine
    → period_behind start rows (last_row rows).restart fine periods
    ≡ period_from (state_behind start rows) (recent_after (state_behind start rows) fine periods)
unfolding state_behind
period-behind start rows fine periods history later =
    let s : ℕ = (last_row rows).restart in
    let x = interval_to rows fine periods in
    let recent : List Interval = keep_last 64 (drop s (intervals rows ++ x ∷ [])) in
    let is : recent_after (state_behind start rows) fine periods ≡ recent = recent_after-behind start rows fine periods history in
    let many : length recent ≡ min 64 (length rows - s) = length-recent rows x history in
    rw is (elim (cases_lt (length rows - s) 64) [
      | inl few ↦
          let left : nat_lt (length rows - s) 64 ≡ true = lt-ltb _ _ few in
          let right : nat_lt (length recent) 64 ≡ true = lt-ltb _ _ (omega (arith, many)) in
          cond-true _ _ _ left ∙ sym (cond-true _ _ _ right)
      | inr enough ↦
          let k : ℕ = length rows - 64 in
          let left : nat_lt (length rows - s) 64 ≡ false = le-ltb _ _ enough in
          let right : nat_lt (length recent) 64 ≡ false = le-ltb _ _ (omega (arith, many)) in
          let full : recent ≡ intervals (drop k rows) ++ x ∷ [] = recent-full rows x history enough in
          let both = totals rows k (omega (arith, history.some)) history.rising in
          let fines : fine - (row_at rows k).fine ≡ fine_total recent =
          rw full (omega (arith, both.fine, sum_by_push (λ (i : Interval). i.fine) (intervals (drop k rows)) x)) in
          let next : length rows - 63 ≡ k + 1 = omega arith in
          let counts : sum_by (λ (r : Row). r.count) (drop (length rows - 63) rows) + periods ≡ count_total recent =
          rw (full, next) (omega (arith, both.count, sum_by_push (λ (i : Interval). i.count) (intervals (drop k rows)) x)) in
          cond-false _ _ _ left
          ∙ ap (λ (n : ℕ). in_band start.band (n / (sum_by (λ (r : Row). r.count) (drop (length rows - 63) rows) + periods))) fines
          ∙ ap (λ (n : ℕ). in_band start.band (fine_total recent / n)) counts
          ∙ sym (cond-false _ _ _ right)
    ])

-- where the interval joins the others
abbrev row_joined : LoopStart → List Row → (fine periods : ℕ) → Row
row_joined start rows fine periods = record {
  fine = fine;
  place = ((last_row rows).place + periods * (last_row rows).period + fine) / 2;
  period = period_behind start rows (last_row rows).restart fine periods;
  count = periods;
  restart = (last_row rows).restart;
}

state_with-joined : (start : LoopStart) (rows : List Row) (fine periods : ℕ) → IsHistory rows → (last_row rows).fine ≤ fine
    → state_with start rows (row_joined start rows fine periods) ≡ joined (state_behind start rows) fine periods
unfolding state_behind state_with
state_with-joined start rows fine periods history later =
    let recent = recent_after-behind start rows fine periods history in
    let period = period-behind start rows fine periods history later in
    rw (period, ← recent) refl

-- what a row by one test gives
by_test : (start : LoopStart) (rows : List Row) (x y : Row) (a b : LoopState) (test : Bool)
    → state_behind start (rows ++ x ∷ []) ≡ a → state_behind start (rows ++ y ∷ []) ≡ b
    → state_behind start (rows ++ (if test then x else y) ∷ []) ≡ (if test then a else b)
by_test start rows x y a b true left right = left
by_test start rows x y a b false left right = right

-- one more row is one step
pub state_behind-next : (start : LoopStart) (rows : List Row) (fine : ℕ) → IsHistory rows → (last_row rows).fine ≤ fine
    → state_behind start (with_next_row start rows fine) ≡ state_after (state_behind start rows) fine
unfolding next_row state_behind
state_behind-next start rows fine history later =
    let periods : ℕ = periods_since (last_row rows) fine in
    let x = row_of_start start (length rows) fine 32 in
    let y = row_joined start rows fine periods in
    let left = state_behind-push start rows x history.some ∙ state_with-restart start rows fine history.some in
    let right = state_behind-push start rows y history.some ∙ state_with-joined start rows fine periods history later in
    let state = state_behind start rows in
    by_test start rows x y (restarted state fine) (joined state fine periods) (nat_lt 32 periods) left right

count_by_test : (start : LoopStart) (rows : List Row) (fine periods : ℕ)
    → (row_at_distance start rows (last_row rows) fine periods).count ≡ min 32 periods
count_by_test start rows fine periods =
    elim (cases_lt 32 periods) [
      | inl far ↦ rw (lt-ltb _ _ far) (omega arith)
      | inr near ↦ rw (le-ltb _ _ near) (omega arith)
    ]

pub count-next : (start : LoopStart) (rows : List Row) (fine : ℕ)
    → (next_row start rows fine).count ≡ count_after (state_behind start rows) fine
unfolding next_row state_behind
count-next start rows fine = count_by_test start rows fine (periods_since (last_row rows) fine)

-- a row's time, and where the loop started last
pub record Follows (rows : List Row) (fine : ℕ) (row : Row) : Type 0 where
  pub fine_is : row.fine ≡ fine
  pub restart : row.restart ≤ length rows

follows : (start : LoopStart) (rows : List Row) (fine periods : ℕ) → IsHistory rows
    → Follows rows fine (row_at_distance start rows (last_row rows) fine periods)
follows start rows fine periods history =
    elim (cases_lt 32 periods) [
      | inl far ↦ rw (lt-ltb _ _ far) (record { fine_is = refl; restart = omega arith })
      | inr near ↦ rw (le-ltb _ _ near) (record { fine_is = refl; restart = omega (arith, history.restart) })
    ]

pub next_follows : (start : LoopStart) (rows : List Row) (fine : ℕ) → IsHistory rows
    → Follows rows fine (next_row start rows fine)
unfolding next_row
next_follows start rows fine history = follows start rows fine (periods_since (last_row rows) fine) history

pub history-next : (start : LoopStart) (rows : List Row) (fine : ℕ) → IsHistory rows → (last_row rows).fine ≤ fine
    → IsHistory (with_next_row start rows fine)
history-next start rows fine history later =
    let row = next_row start rows fine in
    let next = next_follows start rows fine history in
    record {
      some = omega (arith, length_push rows row);
      restart = rw last_row-push (omega (arith, length_push rows row, next.restart));
      rising = IsNonDecreasingBy-push (λ (r : Row). r.fine) rows row history.rising
          (λ d some. rw (get_or_default rows (length rows - 1) d no_row (omega arith)) (omega (arith, next.fine_is, later)));
    }

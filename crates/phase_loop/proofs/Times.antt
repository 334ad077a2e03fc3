-- The rows of a list of times, with one time more.
use Rattle.std.proofs.Common.{◌≡◌, ℕ, zero, suc, ◌+◌, ◌-◌, ◌*◌, ◌<◌, ◌≤◌, List, [], ◌∷◌, ◌++◌, length, drop, map, arith, refl, sym, ◌∙◌, ap, slice_index, length-drop}
use Rattle.std.specs.List.Sorted.{IsNonDecreasing}
use Rattle.std.proofs.lemmas.List.{length_push, get_or_push, get_or_append_left, get_or_default, drop-append-le, map-append}
use Rattle.std.proofs.lemmas.List.Sorted.{IsNonDecreasingBy-push, IsNonDecreasingBy-short}
use Rattle.phase_loop.specs.Rows.{Row, last_row, row_of_start, next_row, with_next_row, rows_to, rows_of, counts}
use Rattle.phase_loop.specs.State.{LoopState, intervals, state_behind, Holds}
use Rattle.phase_loop.specs.inside.Step.{state_after, count_after}
use Rattle.phase_loop.specs.declared.start.LoopStart.{LoopStart}
use Rattle.phase_loop.specs.declared.window.Interval.{Interval}
use Rattle.phase_loop.proofs.Intervals.{last_row-push}
use Rattle.phase_loop.proofs.Steps.{IsHistory, history-next, next_follows, state_behind-next, count-next}

pub length-rows_to : (start : LoopStart) (times : List ℕ) (number : ℕ) → length (rows_to start times number) ≡ number + 1
unfolding rows_to
length-rows_to start times zero = refl
length-rows_to start times (suc number) =
    omega (arith, length_push (rows_to start times number) (next_row start (rows_to start times number) (1024 * slice_index times (suc number))), length-rows_to start times number)

-- what holds of the rows up to a transition
pub record Known (start : LoopStart) (times : List ℕ) (number : ℕ) : Type 0 where
  pub history : IsHistory (rows_to start times number)
  pub last : (last_row (rows_to start times number)).fine ≡ 1024 * slice_index times number

pub known : (start : LoopStart) (times : List ℕ) (number : ℕ) → IsNonDecreasing times → number < length times
    → Known start times number
unfolding rows_to
known start times zero rising within = record {
  history = record {
    some = omega arith;
    restart = omega arith;
    rising = IsNonDecreasingBy-short (λ (r : Row). r.fine) (row_of_start start 0 (1024 * slice_index times 0) 0 ∷ []) (omega arith);
  };
  last = refl;
}
known start times (suc number) rising within =
    let before = known start times number rising (omega arith) in
    let rows : List Row = rows_to start times number in
    let fine : ℕ = 1024 * slice_index times (suc number) in
    let up : slice_index times number ≤ slice_index times (suc number) = rising number (suc number) 0 (omega arith) within in
    let later : (last_row rows).fine ≤ fine = omega (arith, before.last, up) in
    record {
      history = history-next start rows fine before.history later;
      last = rw last_row-push (next_follows start rows fine before.history).fine_is;
    }

-- times after a transition do not change its row
pub rows_to-push : (start : LoopStart) (times : List ℕ) (time number : ℕ) → number < length times
    → rows_to start (times ++ time ∷ []) number ≡ rows_to start times number
unfolding rows_to
rows_to-push start times time zero within = rw (get_or_append_left times (time ∷ []) 0 0 within) refl
rows_to-push start times time (suc number) within =
    rw (get_or_append_left times (time ∷ []) 0 (suc number) within, rows_to-push start times time number (omega arith)) refl

-- one more time gives one more row
pub rows_of-push : (start : LoopStart) (times : List ℕ) (time : ℕ) → 0 < length times
    → rows_of start (times ++ time ∷ []) ≡ with_next_row start (rows_of start times) (1024 * time)
unfolding rows_to
rows_of-push start times time some =
    let number : ℕ = length times - 1 in
    let last : length (times ++ time ∷ []) - 1 ≡ suc number = omega (arith, length_push times time) in
    let here : slice_index (times ++ time ∷ []) (suc number) ≡ time = get_or_push times time 0 (suc number) (omega arith) in
    ap (λ (n : ℕ). rows_to start (times ++ time ∷ []) n) last
    ∙ ap (λ (rows : List Row). with_next_row start rows (1024 * slice_index (times ++ time ∷ []) (suc number))) (rows_to-push start times time number (omega arith))
    ∙ ap (λ (t : ℕ). with_next_row start (rows_of start times) (1024 * t)) here

-- a loop that holds the rule's values at the last time holds them at the next one after a step
pub record Stepped (state after : LoopState) (start : LoopStart) (times : List ℕ) (time count : ℕ) : Type 0 where
  pub holds : Holds after start (times ++ time ∷ [])
  pub counts : counts start (times ++ time ∷ []) ≡ counts start times ++ count ∷ []

pub stepped : (state after : LoopState) (start : LoopStart) (times : List ℕ) (time count : ℕ)
    → Holds state start times → state.fine ≤ 1024 * time
    → after ≡ state_after state (1024 * time) → count ≡ count_after state (1024 * time)
    → Stepped state after start times time count
unfolding state_behind
stepped state after start times time count holds later next same =
    let rows : List Row = rows_of start times in
    let fine : ℕ = 1024 * time in
    let row = next_row start rows fine in
    let before = known start times (length times - 1) holds.rising (omega (arith, holds.some)) in
    let fine_is : state.fine ≡ (last_row rows).fine = ap (λ (s : LoopState). s.fine) holds.values in
    let up : (last_row rows).fine ≤ fine = omega (arith, fine_is, later) in
    let more : rows_of start (times ++ time ∷ []) ≡ with_next_row start rows fine = rows_of-push start times time holds.some in
    let count_is : row.count ≡ count =
    count-next start rows fine ∙ ap (λ (s : LoopState). count_after s fine) (sym holds.values) ∙ sym same in
    let some : 1 ≤ length rows = before.history.some in
    record {
      holds = record {
        some = omega (arith, length_push times time);
        rising = IsNonDecreasingBy-push (λ (t : ℕ). t) times time holds.rising
            (λ d some. rw (get_or_default times (length times - 1) d 0 (omega arith)) (omega (arith, before.last, up)));
        values =
            next
            ∙ ap (λ (s : LoopState). state_after s fine) holds.values
            ∙ sym (state_behind-next start rows fine before.history up)
            ∙ ap (λ (rs : List Row). state_behind start rs) (sym more);
      };
      counts =
          ap (λ (rs : List Row). map (λ (r : Row). r.count) (drop 1 rs)) more
          ∙ ap (λ (rs : List Row). map (λ (r : Row). r.count) rs) (drop-append-le 1 rows (row ∷ []) some)
          ∙ map-append (λ (r : Row). r.count) (drop 1 rows) (row ∷ [])
          ∙ ap (λ (n : ℕ). counts start times ++ n ∷ []) count_is;
    }

-- what a loop holds at the first transition
pub first_holds : (state : LoopState) (start : LoopStart) (time : ℕ)
    → state ≡ record { first = start.first; band = start.band; fine = 1024 * time; place = 1024 * time; period = start.first; recent = [] }
    → Holds state start (time ∷ [])
unfolding rows_to state_behind
first_holds state start time is = record {
  some = omega arith;
  rising = IsNonDecreasingBy-short (λ (t : ℕ). t) (time ∷ []) (omega arith);
  values = is;
}

-- the loop stands at the last time
pub holds_fine : (state : LoopState) (start : LoopStart) (times : List ℕ) → Holds state start times
    → state.fine ≡ 1024 * slice_index times (length times - 1)
unfolding state_behind
holds_fine state start times holds =
    ap (λ (s : LoopState). s.fine) holds.values
    ∙ (known start times (length times - 1) holds.rising (omega (arith, holds.some))).last

-- the loop holds at most 64 intervals
pub holds_few : (state : LoopState) (start : LoopStart) (times : List ℕ) → Holds state start times → length state.recent ≤ 64
unfolding state_behind
holds_few state start times holds =
    let rows : List Row = rows_of start times in
    let since : List Interval = drop (last_row rows).restart (intervals rows) in
    let recent : length state.recent ≡ length (drop (length since - 64) since) = ap (λ (s : LoopState). length s.recent) holds.values in
    omega (arith, recent, length-drop (length since - 64) since)

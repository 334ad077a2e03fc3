-- The rule's rows after a transition at which the loop starts: as long as the clock is within the bounds and the loop's period
-- stays near it, each count is the distance of two ones, and the place stays near the clock.
use Rattle.std.proofs.Common.{◌≡◌, ℕ, suc, ◌+◌, ◌*◌, ◌/◌, ◌<◌, ◌≤◌, List, [], ◌∷◌, ◌++◌, length, drop, arith, refl, ◌∙◌, ap, sym, subst, inl, inr, false, nat_lt}
use Rattle.std.specs.List.{sum_by}
use Rattle.std.proofs.lemmas.Bool.{le-ltb, cases_lt, cond-false}
use Rattle.std.proofs.lemmas.List.{length_push, get_or_push, get_or_append_left, drop-append-le, drop_all}
use Rattle.std.proofs.lemmas.List.Sums.{sum_by_push}
use Rattle.phase_loop.specs.Rows.{Row, no_row, row_at, last_row, row_of_start, row_at_distance, periods_since, period_behind, next_row, with_next_row}
use Rattle.phase_loop.specs.declared.start.LoopStart.{LoopStart}
use Rattle.phase_loop.proofs.Intervals.{last_row-push}
use Rattle.phase_loop.proofs.Nearness.{IsPaced, IsPlaced, IsTimed, count_right, next_placed, start_placed}
use Rattle.phase_loop.proofs.Clock.{IsClock}

-- The rows stand at transition number i of a clock whose first transition has the row number `begin`.
pub record StandsAt (nominal slack : ℕ) (fine place local ideal : ℕ → ℕ) (rows : List Row) (begin i : ℕ) : Type 0 where
  pub many : length rows ≡ begin + i + 1
  pub paced : IsPaced nominal slack (local i) (last_row rows).period
  pub placed : IsPlaced nominal slack (ideal i) (last_row rows).place
  pub restart : (last_row rows).restart ≡ begin
  pub fines : (j : ℕ) → j ≤ i → (row_at rows (begin + j)).fine ≡ fine j
  pub tally : (j : ℕ) → j ≤ i → sum_by (λ (row : Row). row.count) (drop (begin + j + 1) rows) + place j ≡ place i

-- The loop's period stays near the clock: at its first transition, and from each one at which the rows stand to the next.
pub record KeepsPace (start : LoopStart) (slack count : ℕ) (fine place distance local ideal : ℕ → ℕ) : Type 0 where
  pub first : 0 < count → IsPaced start.nominal slack (local 0) start.first
  pub next : (rows : List Row) (begin i : ℕ) → StandsAt start.nominal slack fine place local ideal rows begin i → suc i < count
      → IsPaced start.nominal slack (local (suc i)) (period_behind start rows (last_row rows).restart (fine (suc i)) (distance i))

module _ (start : LoopStart) (slack count : ℕ) (fine place distance local ideal : ℕ → ℕ) (clock : IsClock start.nominal count fine place distance local ideal)
    (pace : KeepsPace start slack count fine place distance local ideal) where
  -- at the first transition of the clock
  pub first_stands : (rows : List Row) (cells : ℕ) → 0 < count
      → StandsAt start.nominal slack fine place local ideal (rows ++ row_of_start start (length rows) (fine 0) cells ∷ []) (length rows) 0
  first_stands rows cells some =
      let row : Row = row_of_start start (length rows) (fine 0) cells in
      let all : List Row = rows ++ row ∷ [] in
      let last : last_row all ≡ row = last_row-push rows row in
      let size : length all ≡ length rows + 1 = length_push rows row in
      record {
        many = omega (arith, size);
        paced = rw last (pace.first some);
        placed = rw last (start_placed start.nominal slack (ideal 0) (fine 0) (clock.timed 0 some));
        restart = rw last refl;
        fines = λ j least.
            let none : j ≡ 0 = omega (arith, least) in
            let here : length rows ≡ length rows + j = omega (arith, none) in
            ap (λ (r : Row). r.fine) (get_or_push rows row no_row (length rows + j) here) ∙ ap fine (sym none);
        tally = λ j least.
            let none : j ≡ 0 = omega (arith, least) in
            let past : drop (length rows + j + 1) all ≡ [] = drop_all (length rows + j + 1) all (omega (arith, size)) in
            let here : place j ≡ place 0 = ap place none in
            rw past (omega (arith, here));
      }

  module _ (rows : List Row) (begin i : ℕ) (here : StandsAt start.nominal slack fine place local ideal rows begin i) (more : suc i < count) where
    -- the next row, where the count is the distance
    abbrev row_behind : Row
    row_behind = record {
      fine = fine (suc i);
      place = ((last_row rows).place + distance i * (last_row rows).period + fine (suc i)) / 2;
      period = period_behind start rows (last_row rows).restart (fine (suc i)) (distance i);
      count = distance i;
      restart = (last_row rows).restart;
    }

    timed_next : IsTimed start.nominal (ideal i + distance i * local i) (fine (suc i))
    timed_next = subst (λ (n : ℕ). IsTimed start.nominal n (fine (suc i))) (clock.spaced i more) (clock.timed (suc i) more)

    counted : periods_since (last_row rows) (fine (suc i)) ≡ distance i
    counted =
        count_right start.nominal slack (local i) (ideal i) (last_row rows).period (last_row rows).place here.paced here.placed (fine (suc i)) (distance i)
        timed_next (clock.some i more) (clock.few i more)

    pub next_is : next_row start rows (fine (suc i)) ≡ row_behind
    unfolding next_row
    next_is =
        let short : nat_lt 32 (distance i) ≡ false = let few = clock.few i more in le-ltb _ _ (omega (arith, few)) in
        ap (row_at_distance start rows (last_row rows) (fine (suc i))) counted
        ∙ cond-false _ _ _ short

    -- the tally of the next row
    tally_next : (j : ℕ) → j ≤ i → sum_by (λ (row : Row). row.count) (drop (begin + j + 1) rows) + distance i + place j ≡ place (suc i)
    tally_next j least =
        let t = here.tally j least in
        let f = clock.further i more in
        omega (arith, t, f)

    -- the loop follows the clock by one transition more
    pub next_stands : StandsAt start.nominal slack fine place local ideal (with_next_row start rows (fine (suc i))) begin (suc i)
    next_stands =
        let row : Row = next_row start rows (fine (suc i)) in
        let all : List Row = rows ++ row ∷ [] in
        let last : last_row all ≡ row_behind = last_row-push rows row ∙ next_is in
        let size : length all ≡ length rows + 1 = length_push rows row in
        let placed = next_placed start.nominal slack (local i) (ideal i) (last_row rows).period (last_row rows).place here.paced here.placed (fine (suc i)) (distance i)
        timed_next (clock.some i more) (clock.few i more) in
        let there : ideal (suc i) ≡ ideal i + distance i * local i = clock.spaced i more in
        record {
          many = omega (arith, size, here.many);
          paced = rw last (pace.next rows begin i here more);
          placed = rw (last, there) placed;
          restart = rw last here.restart;
          fines = λ j least.
              elim (cases_lt i j) [
                | inl after ↦
                    let end : j ≡ suc i = omega (arith, after, least) in
                    let at : length rows ≡ begin + j = omega (arith, end, here.many) in
                    ap (λ (r : Row). r.fine) (get_or_push rows row no_row (begin + j) at ∙ next_is) ∙ ap fine (sym end)
                | inr before ↦
                    ap (λ (r : Row). r.fine) (get_or_append_left rows (row ∷ []) no_row (begin + j) (omega (arith, before, here.many)))
                    ∙ here.fines j before
              ];
          tally = λ j least.
              elim (cases_lt i j) [
                | inl after ↦
                    let end : j ≡ suc i = omega (arith, after, least) in
                    let past : drop (begin + j + 1) all ≡ [] = drop_all (begin + j + 1) all (omega (arith, size, end, here.many)) in
                    let same : place j ≡ place (suc i) = ap place end in
                    rw past (omega (arith, same))
                | inr before ↦
                    let inside : begin + j + 1 ≤ length rows = omega (arith, before, here.many) in
                    let split : drop (begin + j + 1) all ≡ drop (begin + j + 1) rows ++ row ∷ [] = drop-append-le (begin + j + 1) rows (row ∷ []) inside in
                    let pushed = sum_by_push (λ (r : Row). r.count) (drop (begin + j + 1) rows) row in
                    let counts : row.count ≡ distance i = ap (λ (r : Row). r.count) next_is in
                    let t = tally_next j before in
                    rw split (omega (arith, pushed, counts, t))
              ];
        }

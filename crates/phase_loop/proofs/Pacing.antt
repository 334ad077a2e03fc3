-- The loop's period stays near a clock within the bounds: where it is the mean of the last intervals, kept in the whole band; and
-- where it is always the first one, and the drive keeps its speed.
use Rattle.std.proofs.Common.{◌≡◌, ℕ, suc, ◌+◌, ◌-◌, ◌*◌, ◌/◌, ◌<◌, ◌≤◌, max, min, List, length, drop, arith, sym, ◌∙◌, ap, subst, inl, inr, true, false, nat_lt}
use Rattle.std.specs.List.{sum_by}
use Rattle.std.proofs.lemmas.Bool.{lt-ltb, le-ltb, cases_lt, cond-true, cond-false}
use Rattle.phase_loop.specs.Start.{HasWholeBand, IsHeld, in_band}
use Rattle.phase_loop.specs.Rows.{Row, row_at, last_row, period_behind}
use Rattle.phase_loop.specs.declared.start.Band.{Band}
use Rattle.phase_loop.specs.declared.start.LoopStart.{LoopStart}
use Rattle.phase_loop.proofs.Nearness.{IsPaced, following_slack, held_paced, held_slack}
use Rattle.phase_loop.proofs.Clock.{IsClock, first_near, mean_near}
use Rattle.phase_loop.proofs.Tracking.{KeepsPace, StandsAt}

-- the first period is near the first local period
pub record StartsNear (nominal first begin : ℕ) : Type 0 where
  pub low : 64 * first ≤ 64 * begin + nominal
  pub high : 64 * begin ≤ 64 * first + nominal

-- the period of a loop that holds it
held_period : (start : LoopStart) → IsHeld start → (rows : List Row) (restart fine count : ℕ) → period_behind start rows restart fine count ≡ start.first
held_period start is_held rows restart fine count =
    elim (cases_lt (length rows - restart) 64) [
      | inl few ↦ cond-true _ _ _ (lt-ltb _ _ few)
      | inr many ↦
          let mean : ℕ = (fine - (row_at rows (length rows - 64)).fine) / (sum_by (λ (row : Row). row.count) (drop (length rows - 63) rows) + count) in
          let same : max start.first (min start.first mean) ≡ start.first = omega arith in
          cond-false _ _ _ (le-ltb _ _ many) ∙ ap (λ (b : Band). in_band b mean) is_held ∙ same
    ]

module _ (start : LoopStart) (count : ℕ) (fine place distance local ideal : ℕ → ℕ) (clock : IsClock start.nominal count fine place distance local ideal)
    (starts : StartsNear start.nominal start.first (local 0)) where
  module _ (wide : HasWholeBand start) where
    module _ (rows : List Row) (begin i : ℕ) (here : StandsAt start.nominal (following_slack start.nominal) fine place local ideal rows begin i) (more : suc i < count) where
      paced_next : IsPaced start.nominal (following_slack start.nominal) (local (suc i)) (period_behind start rows (last_row rows).restart (fine (suc i)) (distance i))
      paced_next =
          let since : length rows - (last_row rows).restart ≡ suc i = omega (arith, here.many, here.restart) in
          elim (cases_lt (suc i) 64) [
            | inl few ↦
                let short : nat_lt (length rows - (last_row rows).restart) 64 ≡ true = lt-ltb _ _ (omega (arith, since, few)) in
                subst (IsPaced start.nominal (following_slack start.nominal) (local (suc i))) (sym (cond-true _ _ _ short))
                (first_near start.nominal count fine place distance local ideal clock start.first (suc i) starts.low starts.high few more)
            | inr many ↦
                let from : ℕ = suc i - 64 in
                let long : nat_lt (length rows - (last_row rows).restart) 64 ≡ false = le-ltb _ _ (omega (arith, since, many)) in
                let number : length rows - 64 ≡ begin + from = omega (arith, here.many, many) in
                let behind : length rows - 63 ≡ begin + from + 1 = omega (arith, here.many, many) in
                let inside : from ≤ i = omega (arith, many) in
                let time : (row_at rows (length rows - 64)).fine ≡ fine from = ap (λ (n : ℕ). (row_at rows n).fine) number ∙ here.fines from inside in
                let cells : ℕ = sum_by (λ (row : Row). row.count) (drop (begin + from + 1) rows) + distance i in
                let same : sum_by (λ (row : Row). row.count) (drop (length rows - 63) rows) + distance i ≡ cells =
                ap (λ (n : ℕ). sum_by (λ (row : Row). row.count) (drop n rows) + distance i) behind in
                let t = here.tally from inside in
                let f = clock.further i more in
                let all : place from + cells ≡ place (suc i) = omega (arith, t, f) in
                let e : from + 64 ≡ suc i = omega (arith, many) in
                let mean : (fine (suc i) - (row_at rows (length rows - 64)).fine) / (sum_by (λ (row : Row). row.count) (drop (length rows - 63) rows) + distance i)
                ≡ (fine (suc i) - fine from) / cells =
                ap (λ (n : ℕ). (fine (suc i) - n) / (sum_by (λ (row : Row). row.count) (drop (length rows - 63) rows) + distance i)) time
                ∙ ap (λ (n : ℕ). (fine (suc i) - fine from) / n) same in
                subst (IsPaced start.nominal (following_slack start.nominal) (local (suc i))) (sym (cond-false _ _ _ long ∙ ap (in_band start.band) mean ∙ ap (λ (b : Band). in_band b ((fine (suc i) - fine from) / cells)) wide))
                (mean_near start.nominal count fine place distance local ideal clock from (suc i) cells e more all)
          ]

    pub following_pace : KeepsPace start (following_slack start.nominal) count fine place distance local ideal
    following_pace = record {
      first = λ some. first_near start.nominal count fine place distance local ideal clock start.first 0 starts.low starts.high (omega arith) some;
      next = paced_next;
    }

  -- how far each local period is from the first period
  pub record StaysNear : Type 0 where
    pub low : (i : ℕ) → i < count → 45 * start.first ≤ 45 * local i + start.nominal
    pub high : (i : ℕ) → i < count → 45 * local i ≤ 45 * start.first + start.nominal

  module _ (is_held : IsHeld start) (near : StaysNear) where
    paced_at : (i : ℕ) → i < count → IsPaced start.nominal (held_slack start.nominal) (local i) start.first
    paced_at i within =
        held_paced start.nominal start.first (local 0) (local i) (clock.speed 0 (omega (arith, within))) starts.high (near.low i within) (near.high i within)

    pub held_pace : KeepsPace start (held_slack start.nominal) count fine place distance local ideal
    held_pace = record {
      first = paced_at 0;
      next = λ rows begin i here more.
          subst (IsPaced start.nominal (held_slack start.nominal) (local (suc i)))
          (sym (held_period start is_held rows (last_row rows).restart (fine (suc i)) (distance i))) (paced_at (suc i) more);
    }

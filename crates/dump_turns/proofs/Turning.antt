-- The revolutions of a stream that were measured so far.
use Rattle.std.proofs.Common.{◌≡◌, ◌≤◌, ◌<◌, ◌⊎◌, ◌+◌, ◌-◌, ℕ, zero, suc, List, length, slice_index, sym, ap, subst, ◌∙◌, inl, inr, arith}
use Rattle.std.specs.Prelude.{max, min}
use Rattle.std.specs.List.Sorted.{IsStrictlyIncreasing}
use Rattle.std.proofs.lemmas.Bool.{cases_lt}
use Rattle.index_turns.specs.Track.{turn_length}
use Rattle.dump_turns.specs.Turns.{IsTurn}

-- of those before one the shortest and the longest
pub record MeasuredTo (indexes : List ℕ) (turn least greatest : ℕ) : Type 0 where
  pub some : 1 < turn
  pub least_is : IsTurn indexes least
  pub none_shorter : (k : ℕ) → 0 < k → k < turn → least ≤ turn_length indexes k
  pub greatest_is : IsTurn indexes greatest
  pub none_longer : (k : ℕ) → 0 < k → k < turn → turn_length indexes k ≤ greatest

module _ (indexes : List ℕ) where
  -- the first one alone
  pub measured-first : (ticks : ℕ) → 1 < length indexes → ticks ≡ turn_length indexes 1 → MeasuredTo indexes 2 ticks ticks
  measured-first ticks some is = record {
    some = omega arith;
    least_is = first;
    none_shorter = λ k above below.
        let one : k ≡ 1 = omega (arith, above, below) in
        let same : turn_length indexes k ≡ ticks = ap (turn_length indexes) one ∙ sym is in
        omega (arith, same);
    greatest_is = first;
    none_longer = λ k above below.
        let one : k ≡ 1 = omega (arith, above, below) in
        let same : turn_length indexes k ≡ ticks = ap (turn_length indexes) one ∙ sym is in
        omega (arith, same);
  }
    where
      first : IsTurn indexes ticks
      first = record { turn = 1; first = omega arith; last = some; is = sym is }

  module _ (turn least greatest ticks : ℕ) (m : MeasuredTo indexes turn least greatest) (below : turn < length indexes) (is : ticks ≡ turn_length indexes turn) where
    this : IsTurn indexes ticks
    this = record { turn = turn; first = (let some = m.some in omega (arith, some)); last = below; is = sym is }

    least-of : (ticks < least) ⊎ (least ≤ ticks) → IsTurn indexes (min least ticks)
    least-of (inl less) = (let same : ticks ≡ min least ticks = omega (arith, less) in subst (IsTurn indexes) same this)
    least-of (inr more) = (let same : least ≡ min least ticks = omega (arith, more) in subst (IsTurn indexes) same m.least_is)

    greatest-of : (ticks < greatest) ⊎ (greatest ≤ ticks) → IsTurn indexes (max greatest ticks)
    greatest-of (inl less) = (let same : greatest ≡ max greatest ticks = omega (arith, less) in subst (IsTurn indexes) same m.greatest_is)
    greatest-of (inr more) = (let same : ticks ≡ max greatest ticks = omega (arith, more) in subst (IsTurn indexes) same this)

    shorter : (k : ℕ) → 0 < k → k < turn + 1 → (k < turn) ⊎ (turn ≤ k) → min least ticks ≤ turn_length indexes k
    shorter k above within (inl less) = (let before = m.none_shorter k above less in omega (arith, before))
    shorter k above within (inr past) =
        let at : k ≡ turn = omega (arith, within, past) in
        let same : turn_length indexes k ≡ ticks = ap (turn_length indexes) at ∙ sym is in
        omega (arith, same)

    longer : (k : ℕ) → 0 < k → k < turn + 1 → (k < turn) ⊎ (turn ≤ k) → turn_length indexes k ≤ max greatest ticks
    longer k above within (inl less) = (let before = m.none_longer k above less in omega (arith, before))
    longer k above within (inr past) =
        let at : k ≡ turn = omega (arith, within, past) in
        let same : turn_length indexes k ≡ ticks = ap (turn_length indexes) at ∙ sym is in
        omega (arith, same)

    -- one more
    pub measured-next : MeasuredTo indexes (turn + 1) (min least ticks) (max greatest ticks)
    measured-next = record {
      some = (let some = m.some in omega (arith, some));
      least_is = least-of (cases_lt ticks least);
      none_shorter = λ k above within. shorter k above within (cases_lt k turn);
      greatest_is = greatest-of (cases_lt ticks greatest);
      none_longer = λ k above within. longer k above within (cases_lt k turn);
    }

  -- all of them
  pub none-shorter : (turn least greatest : ℕ) → MeasuredTo indexes turn least greatest → length indexes ≤ turn → (ticks : ℕ) → IsTurn indexes ticks → least ≤ ticks
  none-shorter turn least greatest m all ticks t =
      let last = t.last in
      subst (λ (n : ℕ). least ≤ n) t.is (m.none_shorter t.turn t.first (omega (arith, last, all)))

  pub none-longer : (turn least greatest : ℕ) → MeasuredTo indexes turn least greatest → length indexes ≤ turn → (ticks : ℕ) → IsTurn indexes ticks → ticks ≤ greatest
  none-longer turn least greatest m all ticks t =
      let last = t.last in
      subst (λ (n : ℕ). n ≤ greatest) t.is (m.none_longer t.turn t.first (omega (arith, last, all)))

  -- each has one tick at least
  pub rises : IsStrictlyIncreasing indexes → (k : ℕ) → k < length indexes → slice_index indexes 0 + k ≤ slice_index indexes k
  rises up zero within = omega arith
  rises up (suc k) within =
      let next : k + 1 ≡ suc k = omega arith in
      let before = rises up k (omega (arith, within)) in
      let step = up k (omega (arith, within)) in
      let same : slice_index indexes (k + 1) ≡ slice_index indexes (suc k) = ap (slice_index indexes) next in
      omega (arith, before, step, same)

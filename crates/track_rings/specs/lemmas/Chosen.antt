-- The numbers of a range that pass a test: each passes, and between
-- two neighbouring ones none does.
use Rattle.std.specs.Prelude.{◌≡◌, ◌<◌, ◌≤◌, ℕ, zero, suc, ◌+◌, ◌-◌, Bool, true, false, cond, List}
use Rattle.std.specs.Prelude.{[], ◌∷◌, length, filter, slice_index, refl}
use Rattle.std.specs.List.{range_with_len}
use Rattle.std.proofs.Common.{arith, ap, sym, subst, inl, inr}
use Rattle.std.proofs.lemmas.Bool.{cases_lt}

module _ (test : ℕ → Bool) where
  -- numbers from `least` to below `end` that pass, in order, and all of them
  pub record AreChosen (least end : ℕ) (chosen : List ℕ) : Type 0 where
    pub passes : (i : ℕ) → i < length chosen → test (slice_index chosen i) ≡ true
    pub from : (i : ℕ) → i < length chosen → least ≤ slice_index chosen i
    pub to : (i : ℕ) → i < length chosen → slice_index chosen i < end
    pub rises : (i : ℕ) → suc i < length chosen → slice_index chosen i < slice_index chosen (suc i)
    pub between : (i k : ℕ) → suc i < length chosen → slice_index chosen i < k
        → k < slice_index chosen (suc i) → test k ≡ false
    pub first : (k : ℕ) → least ≤ k → k < end → test k ≡ true
        → (0 < length chosen) × (slice_index chosen 0 ≤ k)
    pub last : (k : ℕ) → least ≤ k → k < end → test k ≡ true
        → k ≤ slice_index chosen (length chosen - 1)

  none_chosen : (least end : ℕ) → end ≤ least → AreChosen least end []
  none_chosen least end none = record {
    passes = λ i within. absurd (omega (arith, within));
    from = λ i within. absurd (omega (arith, within));
    to = λ i within. absurd (omega (arith, within));
    rises = λ i within. absurd (omega (arith, within));
    between = λ i k within above below. absurd (omega (arith, within));
    first = λ k above below passed. absurd (omega (arith, above, below, none));
    last = λ k above below passed. absurd (omega (arith, above, below, none));
  }

  -- what passes is not the number that does not
  other_than : (least k : ℕ) → test least ≡ false → least ≤ k → test k ≡ true → least + 1 ≤ k
  other_than least k fails above passed =
      elim (cases_lt least k) [
        | inl more ↦ omega (arith, more)
        | inr less ↦ (let same : k ≡ least = omega (arith, less, above) in
            let yes : test least ≡ true = subst (λ (n : ℕ). test n ≡ true) same passed in
            absurd (cc))
      ]

  -- the first number does not pass
  passed_over : (least end : ℕ) (chosen : List ℕ) → test least ≡ false
      → AreChosen (least + 1) end chosen → AreChosen least end chosen
  passed_over least end chosen fails rest = record {
    passes = rest.passes;
    from = λ i within. (let at = rest.from i within in omega (arith, at));
    to = rest.to;
    rises = rest.rises;
    between = rest.between;
    first =
        λ k above below passed. rest.first k (other_than least k fails above passed) below passed;
    last = λ k above below passed. rest.last k (other_than least k fails above passed) below passed;
  }

  -- the first number passes
  module _ (least end : ℕ) (chosen : List ℕ) (here : test least ≡ true) (below : least < end)
      (rest : AreChosen (least + 1) end chosen) where
    all_pass : (i : ℕ) → i < length (least ∷ chosen) → test (slice_index (least ∷ chosen) i) ≡ true
    all_pass zero within = here
    all_pass (suc i) within = rest.passes i (omega (arith, within))

    all_from : (i : ℕ) → i < length (least ∷ chosen) → least ≤ slice_index (least ∷ chosen) i
    all_from zero within = omega arith
    all_from (suc i) within = (let at = rest.from i (omega (arith, within)) in omega (arith, at))

    all_to : (i : ℕ) → i < length (least ∷ chosen) → slice_index (least ∷ chosen) i < end
    all_to zero within = below
    all_to (suc i) within = rest.to i (omega (arith, within))

    all_rise : (i : ℕ) → suc i < length (least ∷ chosen)
        → slice_index (least ∷ chosen) i < slice_index (least ∷ chosen) (suc i)
    all_rise zero within = (let at = rest.from 0 (omega (arith, within)) in omega (arith, at))
    all_rise (suc i) within = rest.rises i (omega (arith, within))

    -- a number that passes lies after the first of the rest
    no_earlier : (k : ℕ) (b : Bool) → test k ≡ b → least < k → 0 < length chosen
        → k < slice_index chosen 0 → b ≡ false
    no_earlier k true passed above some under =
        let top = rest.to 0 some in
        let found = (rest.first k (omega (arith, above)) (omega (arith, under, top)) passed).1 in
        absurd (omega (arith, found, under))
    no_earlier k false passed above some under = refl

    all_between : (i k : ℕ) → suc i < length (least ∷ chosen) → slice_index (least ∷ chosen) i < k
        → k < slice_index (least ∷ chosen) (suc i)
        → test k ≡ false
    all_between zero k within above under =
        no_earlier k (test k) refl above (omega (arith, within)) under
    all_between (suc i) k within above under = rest.between i k (omega (arith, within)) above under

    last-longer : (x : ℕ) (xs : List ℕ)
        → slice_index (least ∷ x ∷ xs) (length (least ∷ x ∷ xs) - 1)
        ≡ slice_index (x ∷ xs) (length (x ∷ xs) - 1)
    last-longer x xs =
        let at : length (least ∷ x ∷ xs) - 1 ≡ suc (length (x ∷ xs) - 1) = omega arith in
        ap (slice_index (least ∷ x ∷ xs)) at

    last_of_more : (xs : List ℕ) (k : ℕ) → 0 < length xs → k ≤ slice_index xs (length xs - 1)
        → k ≤ slice_index (least ∷ xs) (length (least ∷ xs) - 1)
    last_of_more [] k some under = absurd (omega (arith, some))
    last_of_more (x ∷ xs) k some under = subst (λ (n : ℕ). k ≤ n) (sym (last-longer x xs)) under

    last_at_least : (xs : List ℕ) → ((i : ℕ) → i < length xs → least + 1 ≤ slice_index xs i)
        → least ≤ slice_index (least ∷ xs) (length (least ∷ xs) - 1)
    last_at_least [] each = omega arith
    last_at_least (x ∷ xs) each =
        let at = each (length (x ∷ xs) - 1) (omega arith) in
        subst (λ (n : ℕ). least ≤ n) (sym (last-longer x xs)) (omega (arith, at))

    all_last : (k : ℕ) → least ≤ k → k < end → test k ≡ true
        → k ≤ slice_index (least ∷ chosen) (length (least ∷ chosen) - 1)
    all_last k above under passed =
        elim (cases_lt least k) [
          | inl more ↦ (let found = rest.first k (omega (arith, more)) under passed in
              last_of_more chosen k found.0 (rest.last k (omega (arith, more)) under passed))
          | inr less ↦ (let same : least ≡ k = omega (arith, less, above) in
              subst (λ (n : ℕ). n ≤ slice_index (least ∷ chosen) (length (least ∷ chosen) - 1)) same
              (last_at_least chosen rest.from))
        ]

    taken : AreChosen least end (least ∷ chosen)
    taken = record {
      passes = all_pass;
      from = all_from;
      to = all_to;
      rises = all_rise;
      between = all_between;
      first = λ k above under passed. (omega arith, above);
      last = all_last;
    }

  chosen_by : (least end : ℕ) (chosen : List ℕ) (b : Bool) → test least ≡ b → least < end
      → AreChosen (least + 1) end chosen
      → AreChosen least end (cond b (least ∷ chosen) chosen)
  chosen_by least end chosen true here below rest = taken least end chosen here below rest
  chosen_by least end chosen false here below rest = passed_over least end chosen here rest

  pub are_chosen : (least count : ℕ)
      → AreChosen least (least + count) (filter test (range_with_len least count))
  are_chosen least zero = none_chosen least (least + 0) (omega arith)
  are_chosen least (suc count) =
      let more : least + 1 + count ≡ least + suc count = omega arith in
      chosen_by least (least + suc count) (filter test (range_with_len (least + 1) count))
      (test least) refl (omega arith)
      (subst
      (λ (end : ℕ). AreChosen (least + 1) end (filter test (range_with_len (least + 1) count)))
      more (are_chosen (least + 1) count))

-- The least and the greatest of what is met so far, and one more.
use Rattle.std.proofs.Common.{◌≡◌, ◌<◌, ◌≤◌, ◌⊎◌, ◌+◌, ◌/◌, ◌%◌, ℕ, Bool, true, false, List, length, get_or, Option, Some, None, refl, sym, ap, subst, ◌∙◌, inl, inr, arith}
use Rattle.std.specs.Prelude.{◌↔◌, max, zero, suc, [], ◌∷◌}
use Rattle.std.specs.List.{list_any}
use Rattle.std.proofs.lemmas.Bool.{cases_eq, cases_lt, or_left, or_right}
use Rattle.ibm_disks.specs.declared.sector_size.SectorSize.{SectorSize}
use Rattle.told_disks.specs.Names.{Counts, HasCounted, has, set_at}
use Rattle.told_disks.specs.Told.{Tells, TellsIf}
use Rattle.told_disks.proofs.Counting.{counts_low}
use Rattle.told_disks.proofs.Sets.{has_below, has_nowhere}
use Rattle.told_disks.specs.declared.told.Reach.{Reach}
use Rattle.told_disks.specs.declared.told.Span.{Span}
use Rattle.told_disks.specs.inside.Loops.{IsReachOrNone, IsReachTo, IsSpanOrNone, IsSpanTo}

no_true : false ≡ true → ⊥
no_true e = cc

module _ (marked : List Bool) (number : ℕ) where
  -- the number is not marked
  pub span_same : (span : Option Span) → IsSpanOrNone marked number span → get_or marked number false ≡ false → IsSpanOrNone marked (number + 1) span
  span_same None none here = λ n below. by n below (cases_eq n number)
    where
      by : (n : ℕ) → n < number + 1 → (n ≡ number) ⊎ (n ≡ number → ⊥) → get_or marked n false ≡ false
      by n below (inl same) = ap (λ (k : ℕ). get_or marked k false) same ∙ here
      by n below (inr apart) = none n (omega (arith, below, apart))
  span_same (Some span) is here = record {
    first = is.first;
    last = is.last;
    low = (let low = is.low in omega (arith, low));
    within = λ n below has. by n below has (cases_eq n number);
  }
    where
      by : (n : ℕ) → n < number + 1 → get_or marked n false ≡ true → (n ≡ number) ⊎ (n ≡ number → ⊥) → (span.first ≤ n) × (n ≤ span.last)
      by n below has (inl same) = absurd (no_true (sym here ∙ ap (λ (k : ℕ). get_or marked k false) (sym same) ∙ has))
      by n below has (inr apart) = is.within n (omega (arith, below, apart)) has

  -- it is the first
  pub span_first : IsSpanOrNone marked number None → get_or marked number false ≡ true → IsSpanTo marked (number + 1) (record { first = number; last = number })
  span_first none here = record {
    first = here;
    last = here;
    low = omega arith;
    within = λ n below has. by n below has (cases_eq n number);
  }
    where
      by : (n : ℕ) → n < number + 1 → get_or marked n false ≡ true → (n ≡ number) ⊎ (n ≡ number → ⊥) → (number ≤ n) × (n ≤ number)
      by n below has (inl same) = (omega (arith, same), omega (arith, same))
      by n below has (inr apart) = absurd (no_true (sym (none n (omega (arith, below, apart))) ∙ has))

  -- or the last so far
  pub span_last : (span : Span) → IsSpanTo marked number span → get_or marked number false ≡ true → IsSpanTo marked (number + 1) (record { first = span.first; last = number })
  span_last span is here = record {
    first = is.first;
    last = here;
    low = omega arith;
    within = λ n below has. by n below has (cases_eq n number);
  }
    where
      by : (n : ℕ) → n < number + 1 → get_or marked n false ≡ true → (n ≡ number) ⊎ (n ≡ number → ⊥) → (span.first ≤ n) × (n ≤ number)
      by n below has (inl same) =
          let around = is.within span.last is.low is.last in
          let low = is.low in
          let front = around.0 in
          (omega (arith, same, low, front), omega (arith, same))
      by n below has (inr apart) =
          let around = is.within n (omega (arith, below, apart)) has in
          let low = is.low in
          let front = around.0 in
          let back = around.1 in
          (front, omega (arith, back, low))

module _ (Met : ℕ → Type 0) (track : ℕ) where
  -- the track is not met
  pub reach_same : (reach : Option Reach) → IsReachOrNone Met track reach → (Met track → ⊥) → IsReachOrNone Met (track + 1) reach
  reach_same None none gone = λ t below met. by t below met (cases_eq t track)
    where
      by : (t : ℕ) → t < track + 1 → Met t → (t ≡ track) ⊎ (t ≡ track → ⊥) → ⊥
      by t below met (inl same) = gone (subst Met same met)
      by t below met (inr apart) = none t (omega (arith, below, apart)) met
  reach_same (Some reach) is gone = record { cylinder = is.cylinder; head = is.head; within = λ t below met. by t below met (cases_eq t track) }
    where
      by : (t : ℕ) → t < track + 1 → Met t → (t ≡ track) ⊎ (t ≡ track → ⊥) → (t / 2 < reach.cylinders) × (t % 2 < reach.heads)
      by t below met (inl same) = absurd (gone (subst Met same met))
      by t below met (inr apart) = is.within t (omega (arith, below, apart)) met

  module _ (met : Met track) where
    -- it is the first
    pub reach_first : IsReachOrNone Met track None → IsReachTo Met (track + 1) (record { cylinders = track / 2 + 1; heads = track % 2 + 1 })
    reach_first none = record { cylinder = (track, met, refl); head = (track, met, refl); within = λ t below has. by t below has (cases_eq t track) }
      where
        by : (t : ℕ) → t < track + 1 → Met t → (t ≡ track) ⊎ (t ≡ track → ⊥) → (t / 2 < track / 2 + 1) × (t % 2 < track % 2 + 1)
        by t below has (inl same) = (omega (arith, same), omega (arith, same))
        by t below has (inr apart) = absurd (none t (omega (arith, below, apart)) has)

    module _ (reach : Reach) (is : IsReachTo Met track reach) (cylinders heads : ℕ) (row : cylinders ≡ max (track / 2 + 1) reach.cylinders) (side : heads ≡ max (track % 2 + 1) reach.heads) where
      rows : (track / 2 + 1 < reach.cylinders) ⊎ (reach.cylinders ≤ track / 2 + 1) → (t : ℕ) × Met t × (t / 2 + 1 ≡ cylinders)
      rows (inl less) = let at = is.cylinder.2 in (is.cylinder.0, is.cylinder.1, omega (arith, at, row, less))
      rows (inr more) = (track, met, omega (arith, row, more))

      sides : (track % 2 + 1 < reach.heads) ⊎ (reach.heads ≤ track % 2 + 1) → (t : ℕ) × Met t × (t % 2 + 1 ≡ heads)
      sides (inl less) = let at = is.head.2 in (is.head.0, is.head.1, omega (arith, at, side, less))
      sides (inr more) = (track, met, omega (arith, side, more))

      by : (t : ℕ) → t < track + 1 → Met t → (t ≡ track) ⊎ (t ≡ track → ⊥) → (t / 2 < cylinders) × (t % 2 < heads)
      by t below has (inl same) = (omega (arith, same, row), omega (arith, same, side))
      by t below has (inr apart) =
          let around = is.within t (omega (arith, below, apart)) has in
          let a = around.0 in
          let b = around.1 in
          (omega (arith, a, row), omega (arith, b, side))

      -- or one more
      pub reach_wider : IsReachTo Met (track + 1) (record { cylinders = cylinders; heads = heads })
      reach_wider = record {
        cylinder = rows (cases_lt (track / 2 + 1) reach.cylinders);
        head = sides (cases_lt (track % 2 + 1) reach.heads);
        within = λ t below has. by t below has (cases_eq t track);
      }

module _ (sets : List (List Bool)) (size : SectorSize) where
  module _ (marked : List Bool) (are : (number : ℕ) → (get_or marked number false ≡ true) ↔ Counts sets size number) where
    -- no number counts
    pub tells_no_span : IsSpanOrNone marked 256 None → TellsIf sets size None
    tells_no_span none track has = no_true (sym (none has.0 (has_below (set_at sets track) size has.0 has.2)) ∙ (are has.0).1 has.1)

    -- these do
    pub tells_from : (span : Span) (reach : Reach) → IsSpanTo marked 256 span → IsReachTo (HasCounted sets size) (length sets) reach
        → Tells sets size (record { first = span.first; last = span.last; cylinders = reach.cylinders; heads = reach.heads })
    tells_from span reach is reached = record {
      first = (are span.first).0 is.first;
      last = (are span.last).0 is.last;
      within = λ number counts. within number counts;
      cylinder = reached.cylinder;
      head = reached.head;
      reach = λ track met. by track met (cases_lt track (length sets));
    }
      where
        within : (number : ℕ) → Counts sets size number → (span.first ≤ number) × (number ≤ span.last)
        within number counts =
            is.within number (counts_low sets size number counts) ((are number).1 counts)

        by : (track : ℕ) → HasCounted sets size track → (track < length sets) ⊎ (length sets ≤ track) → (track / 2 < reach.cylinders) × (track % 2 < reach.heads)
        by track met (inl low) = reached.within track low met
        by track met (inr past) = absurd (has_nowhere sets size track met.0 past met.2)

  -- no track has a number that does
  pub tells_no_reach : IsReachOrNone (HasCounted sets size) (length sets) None → TellsIf sets size None
  tells_no_reach none track met = by (cases_lt track (length sets))
    where
      by : (track < length sets) ⊎ (length sets ≤ track) → ⊥
      by (inl low) = none track low met
      by (inr past) = has_nowhere sets size track met.0 past met.2

-- one of some passes
pub any_at : {X : Type 0} (p : X → Bool) (xs : List X) (i : ℕ) (d : X) → i < length xs → p (get_or xs i d) ≡ true → list_any p xs ≡ true
any_at p [] i d low is = absurd (omega (arith, low))
any_at p (x ∷ xs) zero d low is = or_left (p x) (list_any p xs) is
any_at p (x ∷ xs) (suc i) d low is = or_right (p x) (list_any p xs) (any_at p xs i d (omega (arith, low)) is)

-- Which numbers count.
use Rattle.std.proofs.Common.{◌≡◌, ◌<◌, ◌≤◌, ◌⊎◌, ◌+◌, ◌*◌, ◌↔◌, ℕ, Bool, true, false, List, [], ◌∷◌, length, get_or, set, refl, sym, ap, subst, ◌∙◌, inl, inr, zero-add, arith}
use Rattle.std.specs.Prelude.{◌&&◌, cond, max, nat_le, nat_lt}
use Rattle.std.proofs.lemmas.Bool.{and_from, and_parts, cases_eq, cases_lt, leb-true, le-leb, lt-ltb, ltb-true}
use Rattle.std.proofs.lemmas.List.{get_or-set_other, get_or-set_same, get_or_past, length-set}
use Rattle.std.proofs.lemmas.List.Sums.{sum_by-cons}
use Rattle.ibm_disks.specs.declared.sector_size.SectorSize.{SectorSize}
use Rattle.told_disks.specs.Names.{Counts, count_of, has}
use Rattle.told_disks.proofs.Sets.{has_not}

-- a number above 255 stands on no track
pub count_none : (sets : List (List Bool)) (size : SectorSize) (number : ℕ) → 256 ≤ number → count_of sets size number ≡ 0
count_none [] size number above = refl
count_none (s ∷ sets) size number above =
    sum_by-cons (λ (x : List Bool). cond {A = ℕ} (has x size number) 1 0) s sets
    ∙ ap (λ (b : Bool). cond {A = ℕ} b 1 0 + count_of sets size number) (has_not s size number above) ∙ zero-add (count_of sets size number) ∙ count_none sets size number above

-- the commonest number stands on so many tracks
pub record IsMost (sets : List (List Bool)) (size : SectorSize) (most : ℕ) : Type 0 where
  pub each : (number : ℕ) → number < 256 → count_of sets size number ≤ most
  pub least : (bound : ℕ) → ((number : ℕ) → count_of sets size number ≤ bound) → most ≤ bound

module _ (sets : List (List Bool)) (size : SectorSize) (most : ℕ) (is : IsMost sets size most) where
  all : (number : ℕ) → count_of sets size number ≤ most
  all number = by (cases_lt number 256)
    where
      by : (number < 256) ⊎ (256 ≤ number) → count_of sets size number ≤ most
      by (inl low) = is.each number low
      by (inr above) = let none = count_none sets size number above in omega (arith, none)

  -- a number counts that stands on a quarter of these
  pub counts_if : (number : ℕ) → 0 < count_of sets size number → most ≤ 4 * count_of sets size number → Counts sets size number
  counts_if number some often = record {
    some = some;
    often = λ other. let bound = all other in omega (arith, bound, often);
  }

  pub counts_only : (number : ℕ) → Counts sets size number → (0 < count_of sets size number) × (most ≤ 4 * count_of sets size number)
  counts_only number counts = (counts.some, is.least (4 * count_of sets size number) counts.often)

-- the numbers below one are marked that count, and no other
pub record AreMarkedTo (sets : List (List Bool)) (size : SectorSize) (to : ℕ) (marked : List Bool) : Type 0 where
  pub long : length marked ≡ 256
  pub each : (number : ℕ) → number < to → (get_or marked number false ≡ true) ↔ Counts sets size number

pub marked_all : (sets : List (List Bool)) (size : SectorSize) (marked : List Bool) → AreMarkedTo sets size 256 marked → (number : ℕ) → (get_or marked number false ≡ true) ↔ Counts sets size number
marked_all sets size marked are number = by (cases_lt number 256)
  where
    none : 256 ≤ number → get_or marked number false ≡ true → ⊥
    none above is = no (sym (get_or_past marked number false (omega (arith, are.long, above))) ∙ is)
      where
        no : false ≡ true → ⊥
        no e = cc

    by : (number < 256) ⊎ (256 ≤ number) → (get_or marked number false ≡ true) ↔ Counts sets size number
    by (inl low) = are.each number low
    by (inr above) = (
      λ is. absurd (none above is),
      λ counts. absurd (let zero = count_none sets size number above in let some = counts.some in omega (arith, zero, some)),
    )

-- one more is marked, or not
pub marked_more : (sets : List (List Bool)) (size : SectorSize) (most to : ℕ) (marked : List Bool) (mark : Bool) (count : ℕ) → IsMost sets size most → count ≡ count_of sets size to
    → mark ≡ (nat_lt 0 count && nat_le most (4 * count)) → to < 256 → AreMarkedTo sets size to marked → AreMarkedTo sets size (to + 1) (set marked to mark)
marked_more sets size most to marked mark count is counted says low are = record { long = length-set marked to mark ∙ are.long; each = λ number below. by number below (cases_eq number to) }
  where
    here : (mark ≡ true) ↔ Counts sets size to
    here = (
      λ e.
          let parts = and_parts (nat_lt 0 count) (nat_le most (4 * count)) (sym says ∙ e) in
          let some = ltb-true 0 count parts.0 in
          let often = leb-true most (4 * count) parts.1 in
          counts_if sets size most is to (omega (arith, some, counted)) (omega (arith, often, counted)),
      λ counts.
          let only = counts_only sets size most is to counts in
          let some = only.0 in
          let often = only.1 in
          says ∙ and_from (nat_lt 0 count) (nat_le most (4 * count)) (lt-ltb 0 count (omega (arith, some, counted))) (le-leb most (4 * count) (omega (arith, often, counted))),
    )

    by : (number : ℕ) → number < to + 1 → (number ≡ to) ⊎ (number ≡ to → ⊥) → (get_or (set marked to mark) number false ≡ true) ↔ Counts sets size number
    by number below (inl same) =
        let at : get_or (set marked to mark) number false ≡ mark = ap (λ (k : ℕ). get_or (set marked to mark) k false) same ∙ get_or-set_same marked to mark false (omega (arith, are.long, low)) in (
          λ e. subst (Counts sets size) (sym same) (here.0 (sym at ∙ e)),
          λ counts. at ∙ here.1 (subst (Counts sets size) same counts),
        )
    by number below (inr apart) =
        let at : get_or (set marked to mark) number false ≡ get_or marked number false = get_or-set_other marked to number mark false apart in
        let before = are.each number (omega (arith, below, apart)) in (λ e. before.0 (sym at ∙ e), λ counts. at ∙ before.1 counts)

-- the commonest of the numbers so far
pub most_each : (sets : List (List Bool)) (size : SectorSize) (most most' to count : ℕ) → count ≡ count_of sets size to → most' ≡ max count most
    → ((number : ℕ) → number < to → count_of sets size number ≤ most) → (number : ℕ) → number < to + 1 → count_of sets size number ≤ most'
most_each sets size most most' to count counted greater before number below = by (cases_eq number to)
  where
    by : (number ≡ to) ⊎ (number ≡ to → ⊥) → count_of sets size number ≤ most'
    by (inl same) = let at : count_of sets size number ≡ count_of sets size to = ap (count_of sets size) same in omega (arith, at, counted, greater)
    by (inr apart) = let one = before number (omega (arith, below, apart)) in omega (arith, one, greater)

-- a number that counts has 8 bits
pub counts_low : (sets : List (List Bool)) (size : SectorSize) (number : ℕ) → Counts sets size number → number < 256
counts_low sets size number counts = by (cases_lt number 256)
  where
    by : (number < 256) ⊎ (256 ≤ number) → number < 256
    by (inl low) = low
    by (inr above) = absurd (let zero = count_none sets size number above in let some = counts.some in omega (arith, zero, some))

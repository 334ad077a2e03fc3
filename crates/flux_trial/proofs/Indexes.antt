-- The index time of a cell, by the head that has passed all transitions before it.
use Rattle.std.proofs.Common.{◌≡◌, ◌≤◌, ◌<◌, ◌+◌, ◌-◌, ◌*◌, ◌/◌, ◌++◌, ℕ, zero, suc, Bool, true, false, cond, List, [], ◌∷◌, All, length, filter, refl, ap, sym, ◌∙◌, arith, inl, inr, length-append}
use Rattle.std.specs.Prelude.{count_by, nat_le, slice_index}
use Rattle.std.proofs.lemmas.Bool.{cases_lt, le-leb, lt-leb}
use Rattle.std.proofs.lemmas.List.{get_or_append_left}
use Rattle.std.proofs.lemmas.List.Elements.{All-head, All-tail, All-weaker, filter-append}
use Rattle.std.proofs.lemmas.List.Sums.{length-filter}
use Rattle.std.proofs.Math.Seq.{get_or-append_seam}
use Rattle.flux_trial.specs.Drive.{Drive, ideal, index_time, last_at, period}
use Rattle.flux_trial.specs.declared.head.Head.{Head}
use Rattle.flux_trial.specs.inside.Heads.{IsAt, reach}
use Rattle.flux_trial.proofs.Drives.{ideal-front, ideal-next}
use Rattle.flux_writer.specs.lemmas.FoundOnes.{Rises}

pub filter_all : (p : ℕ → Bool) (xs : List ℕ) → All (λ x. p x ≡ true) xs → filter p xs ≡ xs
filter_all p [] all = refl
filter_all p (x ∷ xs) all =
    ap (λ (b : Bool). cond b (x ∷ filter p xs) (filter p xs)) (All-head (λ x. p x ≡ true) x xs all)
    ∙ ap (λ (l : List ℕ). x ∷ l) (filter_all p xs (All-tail (λ x. p x ≡ true) x xs all))

filter_none : (p : ℕ → Bool) (xs : List ℕ) → All (λ x. p x ≡ false) xs → filter p xs ≡ []
filter_none p [] all = refl
filter_none p (x ∷ xs) all =
    ap (λ (b : Bool). cond b (x ∷ filter p xs) (filter p xs)) (All-head (λ x. p x ≡ false) x xs all)
    ∙ filter_none p xs (All-tail (λ x. p x ≡ false) x xs all)

module _ (d : Drive) (ks : List ℕ) (head : Head) (cell : ℕ) (is : IsAt d ks head) (before : All (λ k. k < cell) ks) where
  abbrev at_or_before : ℕ → Bool
  at_or_before k = nat_le k cell

  counted : (rest : List ℕ) → count_by at_or_before (ks ++ rest) ≡ length ks + length (filter at_or_before rest)
  counted rest =
      sym (length-filter at_or_before (ks ++ rest)) ∙ ap length (filter-append at_or_before ks rest)
      ∙ ap (λ (l : List ℕ). length (l ++ filter at_or_before rest))
      (filter_all at_or_before ks (All-weaker (λ k. k < cell) (λ k. at_or_before k ≡ true) (λ k below. le-leb k cell (omega (arith, below))) ks before))
      ∙ length-append ks (filter at_or_before rest)

  -- no transition is at the cell
  none_there : (rest : List ℕ) → All (λ k. cell < k) rest → index_time d (ks ++ rest) cell ≡ reach head cell / 1024
  none_there rest after =
      let n : ℕ = length ks - 1 in
      let within : n < length ks = omega (arith, is.some) in
      let none = filter_none at_or_before rest (All-weaker (λ k. cell < k) (λ k. at_or_before k ≡ false) (λ k above. lt-leb k cell above) rest after) in
      let last : last_at (ks ++ rest) cell ≡ n = omega (arith, counted rest, ap length none) in
      ap (λ (j : ℕ). (ideal d (ks ++ rest) j + (cell - slice_index (ks ++ rest) j) * period d j) / 1024) last
      ∙ ap (λ (u : ℕ). (u + (cell - slice_index (ks ++ rest) n) * period d n) / 1024) (ideal-front d ks rest n within ∙ sym is.ideal_is)
      ∙ ap (λ (k : ℕ). (head.ideal + (cell - k) * period d n) / 1024) (get_or_append_left ks rest 0 n within ∙ sym is.cell_is)
      ∙ ap (λ (p : ℕ). (head.ideal + (cell - head.cell) * p) / 1024) (sym is.period_is)

  -- the next transition is at the cell
  one_there : (rest : List ℕ) → All (λ k. cell < k) rest → index_time d (ks ++ cell ∷ rest) cell ≡ reach head cell / 1024
  one_there rest after =
      let n : ℕ = length ks - 1 in
      let all : List ℕ = ks ++ cell ∷ rest in
      let within : n < length ks = omega (arith, is.some) in
      let more : length ks ≡ suc n = omega (arith, is.some) in
      let none = filter_none at_or_before rest (All-weaker (λ k. cell < k) (λ k. at_or_before k ≡ false) (λ k above. lt-leb k cell above) rest after) in
      let one : filter at_or_before (cell ∷ rest) ≡ cell ∷ [] =
      ap (λ (b : Bool). cond b (cell ∷ filter at_or_before rest) (filter at_or_before rest)) (le-leb cell cell (omega arith))
      ∙ ap (λ (l : List ℕ). cell ∷ l) none in
      let last : last_at all cell ≡ suc n = omega (arith, counted (cell ∷ rest), ap length one, more) in
      let there : slice_index all (suc n) ≡ cell = ap (slice_index all) (sym more) ∙ get_or-append_seam ks cell rest 0 in
      let nothing : (cell - cell) * period d (suc n) ≡ 0 = (let z : cell - cell ≡ 0 = omega arith in ap (λ (m : ℕ). m * period d (suc n)) z ∙ (omega arith)) in
      let place : ideal d all (suc n) ≡ reach head cell =
      ideal-next d all n
      ∙ ap (λ (u : ℕ). u + (slice_index all (suc n) - slice_index all n) * period d n) (ideal-front d ks (cell ∷ rest) n within ∙ sym is.ideal_is)
      ∙ ap (λ (k : ℕ). head.ideal + (k - slice_index all n) * period d n) there
      ∙ ap (λ (k : ℕ). head.ideal + (cell - k) * period d n) (get_or_append_left ks (cell ∷ rest) 0 n within ∙ sym is.cell_is)
      ∙ ap (λ (p : ℕ). head.ideal + (cell - head.cell) * p) (sym is.period_is) in
      ap (λ (j : ℕ). (ideal d all j + (cell - slice_index all j) * period d j) / 1024) last
      ∙ ap (λ (k : ℕ). (ideal d all (suc n) + (cell - k) * period d (suc n)) / 1024) there
      ∙ ap (λ (m : ℕ). (ideal d all (suc n) + m) / 1024) nothing
      ∙ ap (λ (m : ℕ). m / 1024) (let z : ideal d all (suc n) + 0 ≡ ideal d all (suc n) = omega arith in z ∙ place)

  pub index-is : (rest : List ℕ) → All (λ k. cell ≤ k) rest → Rises rest → index_time d (ks ++ rest) cell ≡ reach head cell / 1024
  index-is [] after rises = none_there [] (λ k e within. absurd (omega (arith, within)))
  index-is (r ∷ rest) after rises =
      let first : cell ≤ r = All-head (λ k. cell ≤ k) r rest after in
      elim (cases_lt cell r) [
        | inl above ↦ none_there (r ∷ rest) (all_above r rest above rises.0)
        | inr same ↦ (let e : r ≡ cell = omega (arith, first, same) in
            ap (λ (k : ℕ). index_time d (ks ++ k ∷ rest) cell) e
            ∙ one_there rest (All-weaker (λ k. r < k) (λ k. cell < k) (λ k above. omega (arith, above, first)) rest rises.0))
      ]
    where
      all_above : (r : ℕ) (rest : List ℕ) → cell < r → All (λ k. r < k) rest → All (λ k. cell < k) (r ∷ rest)
      all_above r rest above all zero e within = above
      all_above r rest above all (suc k) e within = omega (arith, above, all k e (omega (arith, within)))

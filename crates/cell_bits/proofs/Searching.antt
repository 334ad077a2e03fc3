-- A word, and a one, that are sought 64 places at a time.
use Rattle.std.proofs.Common.{◌≡◌, ℕ, ◌+◌, ◌-◌, ◌*◌, ◌/◌, ◌%◌, ◌^◌, ◌<◌, ◌≤◌, Bool, true, false, ◌⊎◌, inl, inr, List, length, take, drop, get_or, Option, Some, None, refl, sym, ap, ◌∙◌, subst, arith, length-take, length-take-le, length-drop, get_or-take, get_or-drop, ext_get_or, ◌↔◌, IsTrue, is_some, not, replicate}
use Rattle.std.proofs.lemmas.Bool.{cases_lt}
use Rattle.std.proofs.lemmas.List.{get_or_past}
use Rattle.cell_bits.specs.Word.{digit, word_cells, Stands}
use Rattle.cell_bits.specs.lemmas.WordLaws.{length-word_cells, get_or-word_cells}
use Rattle.cell_bits.specs.Search.{StandsNowhere, IsFirstWord, HasNoOne}
use Rattle.cell_bits.specs.Broken.{Unbroken}
use Rattle.cell_bits.specs.inside.Window.{IsWindow, AreCandidates, cell_of_two}
use Rattle.cell_bits.proofs.Joining.{two_windows, shifted-cell, shifted-past}
use Rattle.cell_bits.proofs.Candidates.{zero-digit}

module _ (cells : List Bool) (value count : ℕ) where
  -- a word that stands lies in the list
  pub stands-within : 1 ≤ count → (place : ℕ) → Stands cells value count place → place + count ≤ length cells
  stands-within some place stands =
      let long = ap length stands in
      omega (arith, long, length-take count (drop place cells), length-drop place cells, length-word_cells count value)

  -- a cell of a word that stands
  stands-cell : (place i : ℕ) → Stands cells value count place → i < count → get_or cells (place + i) false ≡ digit value (count - 1 - i)
  stands-cell place i stands below =
      sym (get_or-take count (drop place cells) i false below ∙ get_or-drop place cells i false)
      ∙ ap (λ list. get_or list i false) stands ∙ get_or-word_cells count value i below

  from-cells : (place : ℕ) → place + count ≤ length cells → ((i : ℕ) → i < count → get_or cells (place + i) false ≡ digit value (count - 1 - i)) → Stands cells value count place
  from-cells place within each =
      let long : length (take count (drop place cells)) ≡ count = length-take-le count (drop place cells) (omega (arith, length-drop place cells)) in
      ext_get_or false (take count (drop place cells)) (word_cells count value) (long ∙ sym (length-word_cells count value))
      (λ i low. let below : i < count = omega (arith, long) in
      get_or-take count (drop place cells) i false below ∙ get_or-drop place cells i false ∙ each i below ∙ sym (get_or-word_cells count value i below))

  pub nowhere-none : (from : ℕ) → StandsNowhere cells value count from from
  nowhere-none from place after before stands = omega arith

  -- no place is left, since no word stands at or beyond the end
  pub nowhere-beyond : 1 ≤ count → (from place to : ℕ) → StandsNowhere cells value count from place → (place < to → length cells < place + count)
      → StandsNowhere cells value count from to
  nowhere-beyond some from place to so_far beyond other after before stands = by_place (cases_lt other place)
    where
      by_place : (other < place) ⊎ (place ≤ other) → ⊥
      by_place (inl earlier) = so_far other after earlier stands
      by_place (inr later) = omega (arith, beyond, stands-within some other stands)

  module _ (place here next places : ℕ) (few : count ≤ 32) (first : IsWindow cells place here) (second : IsWindow cells (place + 64) next)
      (told : AreCandidates here next value count count places) where
    same-cell : (k i : ℕ) → k < 64 → i < count → cell_of_two here next (k + i) ≡ get_or cells (place + k + i) false
    same-cell k i within below =
        let at : place + (k + i) ≡ place + k + i = omega arith in
        two_windows cells place here next first second (k + i) (omega arith) ∙ ap (λ n. get_or cells n false) at

    stands-told : (k : ℕ) → k < 64 → Stands cells value count (place + k) → digit places (63 - k) ≡ true
    stands-told k within stands = (told k within).1 (λ i below. same-cell k i within below ∙ stands-cell (place + k) i stands below)

    pub told-stands : (k : ℕ) → k < 64 → place + k + count ≤ length cells → digit places (63 - k) ≡ true → Stands cells value count (place + k)
    told-stands k within inside e = from-cells (place + k) inside (λ i below. sym (same-cell k i within below) ∙ (told k within).0 e i below)

    -- the places before the first one that is told are passed over
    pub nowhere-more : (from n : ℕ) → n ≤ 64 → ((k : ℕ) → k < n → digit places (63 - k) ≡ false) → StandsNowhere cells value count from place
        → StandsNowhere cells value count from (place + n)
    nowhere-more from n most none so_far other after before stands = by_place (cases_lt other place)
      where
        by_place : (other < place) ⊎ (place ≤ other) → ⊥
        by_place (inl earlier) = so_far other after earlier stands
        by_place (inr later) =
            let at : other ≡ place + (other - place) = omega arith in
            let yes : digit places (63 - (other - place)) ≡ true = stands-told (other - place) (omega arith) (subst (λ p. Stands cells value count p) at stands) in
            let no : digit places (63 - (other - place)) ≡ false = none (other - place) (omega arith) in
            let contrary : true ≡ false = sym yes ∙ no in cc

    pub nowhere-block : (from : ℕ) → places ≡ 0 → StandsNowhere cells value count from place → StandsNowhere cells value count from (place + 64)
    nowhere-block from empty so_far = nowhere-more from 64 (omega arith) (λ k below. ap (λ n. digit n (63 - k)) empty ∙ zero-digit (63 - k)) so_far

-- ones that are sought in the rest of a block
module _ (cells : List Bool) where
  pub no-one-yet : (from : ℕ) → HasNoOne cells from from
  no-one-yet from place after before = absurd (omega arith)

  -- no place is left, since no one stands past the list's end
  pub no-one-beyond : (from place to : ℕ) → HasNoOne cells from place → (place < to → length cells ≤ place) → HasNoOne cells from to
  no-one-beyond from place to so_far beyond other after before = by_place (cases_lt other place)
    where
      by_place : (other < place) ⊎ (place ≤ other) → get_or cells other false ≡ false
      by_place (inl earlier) = so_far other after earlier
      by_place (inr later) = get_or_past cells other false (omega (arith, beyond))

  module _ (place block : ℕ) (shown : IsWindow cells (64 * (place / 64)) block) where
    pub one-told : (k : ℕ) → k < 64 → digit (block * 2 ^ (place % 64) % 2 ^ 64) (63 - k) ≡ true
        → (k + place % 64 < 64) × (get_or cells (place + k) false ≡ true)
    one-told k within told = by_place (cases_lt (k + place % 64) 64)
      where
        by_place : (k + place % 64 < 64) ⊎ (64 ≤ k + place % 64) → (k + place % 64 < 64) × (get_or cells (place + k) false ≡ true)
        by_place (inl here) = (here, sym (shifted-cell cells place block shown k here) ∙ told)
        by_place (inr past) = let no : true ≡ false = sym told ∙ shifted-past cells place block shown k within past in cc

    -- the places before the first one that is told are passed over
    pub no-one-more : (from n : ℕ) → n ≤ 64 - place % 64 → ((k : ℕ) → k < n → digit (block * 2 ^ (place % 64) % 2 ^ 64) (63 - k) ≡ false)
        → HasNoOne cells from place → HasNoOne cells from (place + n)
    no-one-more from n most none so_far other after before = by_place (cases_lt other place)
      where
        by_place : (other < place) ⊎ (place ≤ other) → get_or cells other false ≡ false
        by_place (inl earlier) = so_far other after earlier
        by_place (inr later) =
            let at : other ≡ place + (other - place) = omega arith in
            ap (λ n. get_or cells n false) at ∙ sym (shifted-cell cells place block shown (other - place) (omega arith))
            ∙ none (other - place) (omega arith)

    pub no-one-block : (from : ℕ) → block * 2 ^ (place % 64) % 2 ^ 64 ≡ 0 → HasNoOne cells from place
        → HasNoOne cells from (place + (64 - place % 64))
    no-one-block from empty so_far =
        no-one-more from (64 - place % 64) (omega arith) (λ k below. ap (λ n. digit n (63 - k)) empty ∙ zero-digit (63 - k)) so_far

-- eight zeros are a word
eight-zeros : word_cells 8 0 ≡ replicate 8 false
unfolding word_cells
eight-zeros = refl

pub unbroken-sought : (cells : List Bool) (from to : ℕ) → 8 ≤ to - from → (found : Option ℕ) → IsFirstWord cells 0 8 from (to - 7) found
    → (answer : Bool) → is_some found ≡ not answer → IsTrue answer ↔ Unbroken cells from to
unbroken-sought cells from to long None none true told =
    (λ _. λ place after before zeros. none place after (omega arith) (zeros ∙ sym eight-zeros), λ _. refl)
unbroken-sought cells from to long None none false told = cc
unbroken-sought cells from to long (Some place) first true told = cc
unbroken-sought cells from to long (Some place) first false told =
    (λ yes. cc, λ whole. absurd (whole place first.0 (let before : place < to - 7 = first.1 in omega arith) (first.2 ∙ eight-zeros)))

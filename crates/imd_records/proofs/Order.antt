-- Rows in order, with one more in its place.
use Rattle.std.proofs.Common.{◌≡◌, ◌<◌, ◌≤◌, ◌⊎◌, ℕ, ◌+◌, true, false, List, [], ◌∷◌, ◌++◌, drop, get_or, length, take, zero, suc, inl, inr, refl, sym, subst, ap, ◌∙◌, arith}
use Rattle.std.specs.List.{Contains, insert}
use Rattle.std.specs.Prelude.{◌↔◌, nat_lt}
use Rattle.std.proofs.lemmas.Bool.{cases_lt}
use Rattle.std.proofs.lemmas.Bool.Decides.{nat_tests}
use Rattle.std.proofs.lemmas.List.{get_or_default, take-append-drop}
use Rattle.std.proofs.lemmas.List.Edits.{length-insert}
use Rattle.std.proofs.lemmas.List.Elements.{Contains-append_cases, Contains-append_left, Contains-append_right, Contains-get_or}
use Rattle.name_book.specs.Book.{NamesKnown, told_at}
use Rattle.name_book.specs.Names.{is_before}
use Rattle.name_book.specs.declared.name.SectorPlace.{SectorPlace}
use Rattle.name_book.specs.declared.name.SectorPlace.TheVariants.{Behind, Early}
use Rattle.imd_records.specs.Choices.{AreInOrder, AreRows, LiesBefore, is_in}
use Rattle.imd_records.specs.inside.Placed.{AreBelow, IsPlaceOf}

below_not : (a b c : ℕ) → nat_lt a b ≡ true → nat_lt c b ≡ false → nat_lt a c ≡ true
below_not a b c first second = grind (arith, nat_tests)

below_both : (a b c : ℕ) → nat_lt a b ≡ true → nat_lt b c ≡ true → nat_lt a c ≡ true
below_both a b c first second = grind (arith, nat_tests)

-- what lies before a place lies before all places that do not lie before that one
before_weak : (a b c : SectorPlace) → is_before a b ≡ true → is_before c b ≡ false → is_before a c ≡ true
before_weak (Behind a) (Behind b) (Behind c) first second = below_not a b c first second
before_weak (Behind a) (Behind b) (Early c) first second = refl
before_weak (Behind a) (Early b) (Behind c) first second = absurd (cc)
before_weak (Behind a) (Early b) (Early c) first second = refl
before_weak (Early a) (Behind b) c first second = absurd (cc)
before_weak (Early a) (Early b) (Behind c) first second = absurd (cc)
before_weak (Early a) (Early b) (Early c) first second = below_not a b c first second

before_both : (a b c : SectorPlace) → is_before a b ≡ true → is_before b c ≡ true → is_before a c ≡ true
before_both (Behind a) (Behind b) (Behind c) first second = below_both a b c first second
before_both (Behind a) (Behind b) (Early c) first second = refl
before_both (Behind a) (Early b) (Behind c) first second = absurd (cc)
before_both (Behind a) (Early b) (Early c) first second = refl
before_both (Early a) (Behind b) c first second = absurd (cc)
before_both (Early a) (Early b) (Behind c) first second = absurd (cc)
before_both (Early a) (Early b) (Early c) first second = below_both a b c first second

module _ (known : NamesKnown) where
  abbrev place : ℕ → SectorPlace
  place number = (told_at known number).place

  -- what lies before a row lies before those behind it
  before_behind : (n a b : ℕ) → is_before (place n) (place a) ≡ true → LiesBefore known a b → is_before (place n) (place b) ≡ true
  before_behind n a b first (inl before) = before_both (place n) (place a) (place b) first before
  before_behind n a b first (inr same) = before_weak (place n) (place a) (place b) first same.0

  in_order_at : (rows : List ℕ) (i k : ℕ) → AreInOrder known rows → i < k → k < length rows → LiesBefore known (get_or rows i 0) (get_or rows k 0)
  in_order_at [] i k order before below = absurd (omega arith)
  in_order_at (row ∷ rows) zero zero order before below = absurd (omega arith)
  in_order_at (row ∷ rows) zero (suc k) order before below = order.0 (get_or rows k 0) (Contains-get_or rows k 0 (omega arith))
  in_order_at (row ∷ rows) (suc i) zero order before below = absurd (omega arith)
  in_order_at (row ∷ rows) (suc i) (suc k) order before below = in_order_at rows i k order.1 (omega arith) (omega arith)

  pub row_below : (number : ℕ) (rows : List ℕ) (k : ℕ) → AreBelow number rows → k < length rows → get_or rows k 0 < number
  row_below number rows k below within = below (get_or rows k 0) (Contains-get_or rows k 0 within)

  -- before the first row before which a number lies it has its place
  pub place_found : (rows : List ℕ) (number at : ℕ) → AreInOrder known rows → AreBelow number rows → at < length rows
      → ((k : ℕ) → k < at → is_before (place number) (place (get_or rows k 0)) ≡ false) → is_before (place number) (place (get_or rows at 0)) ≡ true
      → IsPlaceOf known rows number at
  place_found rows number at order below within none here = record {
    within = omega arith;
    before = λ k early. inr (none k early, row_below number rows k below (omega arith));
    behind = λ k late short. by k (cases_lt at k) late short;
  }
    where
      by : (k : ℕ) → (at < k) ⊎ (k ≤ at) → at ≤ k → k < length rows → LiesBefore known number (get_or rows k 0)
      by k (inl later) late short = inl (before_behind number (get_or rows at 0) (get_or rows k 0) here (in_order_at rows at k order later short))
      by k (inr not) late short =
          let same : at ≡ k = omega arith in
          inl (subst (λ (n : ℕ). is_before (place number) (place (get_or rows n 0)) ≡ true) same here)

  pub place_last : (rows : List ℕ) (number at : ℕ) → AreBelow number rows → at ≡ length rows
      → ((k : ℕ) → k < length rows → is_before (place number) (place (get_or rows k 0)) ≡ false) → IsPlaceOf known rows number at
  place_last rows number at below is none = record {
    within = omega arith;
    before = λ k early. inr (none k (omega arith), row_below number rows k below (omega arith));
    behind = λ k late short. absurd (omega arith);
  }

  only : (n other : ℕ) → Contains (n ∷ []) other → other ≡ n
  only n other (zero, below, is) = sym is
  only n other (suc k, below, is) = absurd (omega arith)

  -- what rows with one more contain
  pub inserted : (rows : List ℕ) (at n other : ℕ) → Contains (insert rows at n) other → Contains rows other ⊎ (other ≡ n)
  inserted rows at n other has = by (Contains-append_cases (take at rows) (n ∷ drop at rows) other has)
    where
      whole : (xs : List ℕ) → xs ≡ rows → Contains xs other → Contains rows other
      whole xs same has = subst (λ (ys : List ℕ). Contains ys other) same has

      rest : Contains (n ∷ []) other ⊎ Contains (drop at rows) other → Contains rows other ⊎ (other ≡ n)
      rest (inl one) = inr (only n other one)
      rest (inr more) = inl (whole (take at rows ++ drop at rows) (take-append-drop at rows) (Contains-append_right (take at rows) (drop at rows) other more))

      by : Contains (take at rows) other ⊎ Contains (n ∷ drop at rows) other → Contains rows other ⊎ (other ≡ n)
      by (inl first) = inl (whole (take at rows ++ drop at rows) (take-append-drop at rows) (Contains-append_left (take at rows) (drop at rows) other first))
      by (inr second) = rest (Contains-append_cases (n ∷ []) (drop at rows) other second)

  pub inserted_old : (rows : List ℕ) (at n other : ℕ) → Contains rows other → Contains (insert rows at n) other
  inserted_old rows at n other has = by (Contains-append_cases (take at rows) (drop at rows) other (subst (λ (ys : List ℕ). Contains ys other) (sym (take-append-drop at rows)) has))
    where
      by : Contains (take at rows) other ⊎ Contains (drop at rows) other → Contains (insert rows at n) other
      by (inl first) = Contains-append_left (take at rows) (n ∷ drop at rows) other first
      by (inr second) = Contains-append_right (take at rows) (n ∷ drop at rows) other (Contains-append_right (n ∷ []) (drop at rows) other second)

  pub inserted_new : (rows : List ℕ) (at n : ℕ) → Contains (insert rows at n) n
  inserted_new rows at n = Contains-append_right (take at rows) (n ∷ drop at rows) n (0, omega arith, refl)

  -- they are in order
  order_inserted : (rows : List ℕ) (at n : ℕ) → AreInOrder known rows → at ≤ length rows → ((k : ℕ) → k < at → LiesBefore known (get_or rows k 0) n)
      → ((k : ℕ) → at ≤ k → k < length rows → LiesBefore known n (get_or rows k 0)) → AreInOrder known (insert rows at n)
  order_inserted rows zero n order within before behind = (λ other has. there other has, order)
    where
      there : (other : ℕ) → Contains rows other → LiesBefore known n other
      there other (k, below, is) = subst (LiesBefore known n) (get_or_default rows k 0 other below ∙ is) (behind k (omega arith) below)
  order_inserted [] (suc at) n order within before behind = absurd (omega arith)
  order_inserted (row ∷ rows) (suc at) n order within before behind = (
    λ other has. by other (inserted rows at n other has),
    order_inserted rows at n order.1 (omega arith) (λ k early. before (suc k) (omega arith)) (λ k late short. behind (suc k) (omega arith) (omega arith)),
  )
    where
      by : (other : ℕ) → Contains rows other ⊎ (other ≡ n) → LiesBefore known row other
      by other (inl old) = order.0 other old
      by other (inr is) = subst (LiesBefore known row) (sym is) (before 0 (omega arith))

  -- The rows of the first numbers.
  pub record AreRowsBelow (code number : ℕ) (rows : List ℕ) : Type 0 where
    pub order : AreInOrder known rows
    pub each : (n : ℕ) → Contains rows n ↔ ((n < number) × (is_in code (told_at known n) ≡ true))
    pub few : length rows ≤ number

  pub rows_below : (code number : ℕ) (rows : List ℕ) → AreRowsBelow code number rows → AreBelow number rows
  rows_below code number rows are row has = ((are.each row).0 has).0

  none_in : (n : ℕ) → Contains [] n → ⊥
  none_in n (k, below, is) = omega arith

  pub rows_start : (code : ℕ) (rows : List ℕ) → rows ≡ [] → AreRowsBelow code 0 rows
  rows_start code rows is = subst (AreRowsBelow code 0) (sym is)
      (record { order = tt; each = λ n. (λ has. absurd (none_in n has), λ less. absurd (let below = less.0 in omega (arith, below))); few = omega arith })

  pub rows_step : (code number at : ℕ) (rows new : List ℕ) → AreRowsBelow code number rows → IsPlaceOf known rows number at → is_in code (told_at known number) ≡ true
      → new ≡ insert rows at number → AreRowsBelow code (number + 1) new
  rows_step code number at rows new are put in_it is = subst (AreRowsBelow code (number + 1)) (sym is)
      (record {
        order = order_inserted rows at number are.order put.within put.before put.behind;
        each = λ n. (λ has. there n (inserted rows at number n has), λ less. back n (cases_lt n number) less.0 less.1);
        few = (let size = length-insert rows at number put.within in let few = are.few in omega (arith, size, few));
      })
    where
      there : (n : ℕ) → Contains rows n ⊎ (n ≡ number) → (n < number + 1) × (is_in code (told_at known n) ≡ true)
      there n (inl old) = (let was = (are.each n).0 old in let below = was.0 in (omega (arith, below), was.1))
      there n (inr same) = (omega arith, subst (λ (m : ℕ). is_in code (told_at known m) ≡ true) (sym same) in_it)

      back : (n : ℕ) → (n < number) ⊎ (number ≤ n) → n < number + 1 → is_in code (told_at known n) ≡ true → Contains (insert rows at number) n
      back n (inl before) below is_in_it = inserted_old rows at number n ((are.each n).1 (before, is_in_it))
      back n (inr past) below is_in_it = (let same : number ≡ n = omega arith in subst (Contains (insert rows at number)) same (inserted_new rows at number))

  pub rows_past : (code number : ℕ) (rows : List ℕ) → AreRowsBelow code number rows → is_in code (told_at known number) ≡ false → AreRowsBelow code (number + 1) rows
  rows_past code number rows are out = record {
    order = are.order;
    each = λ n. (λ has. (let was = (are.each n).0 has in let below = was.0 in (omega (arith, below), was.1)), λ less. back n (cases_lt n number) less.0 less.1);
    few = (let few = are.few in omega (arith, few));
  }
    where
      differ : false ≡ true → ⊥
      differ e = cc

      back : (n : ℕ) → (n < number) ⊎ (number ≤ n) → n < number + 1 → is_in code (told_at known n) ≡ true → Contains rows n
      back n (inl before) below is_in_it = (are.each n).1 (before, is_in_it)
      back n (inr past) below is_in_it = (let same : n ≡ number = omega arith in absurd (differ (sym out ∙ ap (λ (m : ℕ). is_in code (told_at known m)) (sym same) ∙ is_in_it)))

  pub rows_end : (code number : ℕ) (rows : List ℕ) → AreRowsBelow code number rows → number ≡ length known.told → AreRows known code rows
  rows_end code number rows are is = record {
    order = are.order;
    each = λ n. (
      λ has. (let was = (are.each n).0 has in let below = was.0 in (omega (arith, below, is), was.1)),
      λ less. (are.each n).1 ((let below = less.0 in omega (arith, below, is)), less.1),
    );
  }

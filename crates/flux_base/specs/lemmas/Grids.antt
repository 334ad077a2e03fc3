-- Rows of the same length, one after another: how many items they have, which has which
-- number, and which stand before one. Both orders of a format's tracks are such, whatever its
-- numbers of cylinders and heads.
use Rattle.std.specs.Prelude.{◌≡◌, ℕ, zero, suc, ◌+◌, ◌*◌, ◌/◌, ◌%◌, ◌<◌, ◌≤◌, Bool, true, false}
use Rattle.std.specs.Prelude.{◌||◌, ◌&&◌, nat_eq, nat_lt, cond, List, [], ◌∷◌, ◌++◌, length, map}
use Rattle.std.specs.Prelude.{take, drop, filter, sum_by, get_or, refl}
use Rattle.std.specs.List.{flat_map, range_with_len}
use Rattle.std.proofs.Common.{ap, sym, ◌∙◌, arith, inl, inr, length-append}
use Rattle.std.proofs.Math.Nat.{div-lt_iff_lt-mul, mod-lt, mul-le-mul_right, suc-mul}
use Rattle.std.proofs.Math.Seq.{take-length, take-suc}
use Rattle.std.proofs.lemmas.Bool.{cases_lt, eq-eqb, eqb-true, le-ltb, lt-ltb}
use Rattle.std.proofs.lemmas.List.{get_or_append_left, get_or-append-add, take-append-drop}
use Rattle.std.proofs.lemmas.List.FromFn.{get_or-map-range_with_len, length-map-range_with_len}
use Rattle.std.proofs.lemmas.List.Sums.{sum_by-append}
use Rattle.std.proofs.lemmas.Nat.{div-add-mod'}

-- the order of two numbers is that of their rows, and in one row of their columns
pub order_of_numbers : (width row column row' column' k n : ℕ) → k ≡ row * width + column
    → n ≡ row' * width + column' → column < width → column' < width
    → (nat_lt row row' || (nat_eq row row' && nat_lt column column')) ≡ nat_lt k n
order_of_numbers width row column row' column' k n is is' low low' =
    elim (cases_lt row row') [
      | inl less ↦
          let next : suc row * width ≤ row' * width =
          mul-le-mul_right width (omega (arith, less)) in
          let before : k < n = omega (arith, next, suc-mul row width, is, is', low) in
          rw (lt-ltb row row' less) (sym (lt-ltb k n before))
      | inr most ↦ elim (cases_lt row' row) [
        | inl more ↦
            let next : suc row' * width ≤ row * width =
            mul-le-mul_right width (omega (arith, more)) in
            let after : n ≤ k = omega (arith, next, suc-mul row' width, is, is', low') in
            rw (le-ltb row row' most, other_rows row row' more) (sym (le-ltb k n after))
        | inr least ↦
            let same : row ≡ row' = omega (arith, most, least) in
            let whole : row * width ≡ row' * width = ap (λ (r : ℕ). r * width) same in
            rw (le-ltb row row' most, eq-eqb row row' same) (in_row whole)
      ]
    ]
  where
    other_rows : (r s : ℕ) → s < r → nat_eq r s ≡ false
    other_rows r s less = by (nat_eq r s) (eqb-true r s)
      where
        by : (b : Bool) → (b ≡ true → r ≡ s) → b ≡ false
        by true same = let e = same refl in absurd (omega (arith, e, less))
        by false same = refl

    in_row : row * width ≡ row' * width → nat_lt column column' ≡ nat_lt k n
    in_row whole = elim (cases_lt column column') [
      | inl less ↦
          lt-ltb column column' less ∙ sym (lt-ltb k n (omega (arith, less, whole, is, is')))
      | inr most ↦
          le-ltb column column' most ∙ sym (le-ltb k n (omega (arith, most, whole, is, is')))
    ]

-- what passes a test that the first items of a list pass, and no others, are these
pub filter-first : {X : Type 0} (test : X → Bool) (xs : List X) (n : ℕ) (d : X)
    → ((k : ℕ) → k < length xs → test (get_or xs k d) ≡ nat_lt k n)
    → filter test xs ≡ take n xs
filter-first test [] zero d each = refl
filter-first test [] (suc n) d each = refl
filter-first {X = X} test (x ∷ xs) zero d each =
    ap (λ (b : Bool). cond b (x ∷ filter test xs) (filter test xs)) (each 0 (omega arith))
    ∙ filter-first test xs zero d
    (λ k below.
    each (suc k) (omega (arith, below)) ∙ le-ltb (suc k) 0 (omega arith)
    ∙ sym (le-ltb k 0 (omega arith)))
filter-first {X = X} test (x ∷ xs) (suc n) d each =
    ap (λ (b : Bool). cond b (x ∷ filter test xs) (filter test xs))
    (each 0 (omega arith) ∙ lt-ltb 0 (suc n) (omega arith))
    ∙ ap (λ (rest : List X). x ∷ rest)
    (filter-first test xs n d (λ k below. each (suc k) (omega (arith, below)) ∙ next k n))
  where
    next : (k m : ℕ) → nat_lt (suc k) (suc m) ≡ nat_lt k m
    next k m = elim (cases_lt k m) [
      | inl less ↦ lt-ltb (suc k) (suc m) (omega (arith, less)) ∙ sym (lt-ltb k m less)
      | inr most ↦ le-ltb (suc k) (suc m) (omega (arith, most)) ∙ sym (le-ltb k m most)
    ]

-- what one item weighs
single : {X : Type 0} (weight : X → ℕ) (x : X) → sum_by weight (x ∷ []) ≡ weight x
single weight x = let e : 0 + weight x ≡ weight x = omega arith in e

module _ {X : Type 0} (make : ℕ → ℕ → X) (columns : ℕ) where
  -- one row, and so many from one on
  abbrev row : ℕ → List X
  row r = map (λ c. make r c) (range_with_len 0 columns)

  abbrev rows_from : ℕ → ℕ → List X
  rows_from first rows = flat_map row (range_with_len first rows)

  abbrev pub grid : ℕ → List X
  grid rows = rows_from 0 rows

  length-row : (r : ℕ) → length (row r) ≡ columns
  length-row r = length-map-range_with_len (λ c. make r c) 0 columns

  length-rows : (first rows : ℕ) → length (rows_from first rows) ≡ rows * columns
  length-rows first zero = let none : 0 * columns ≡ 0 = omega arith in sym none
  length-rows first (suc rows) =
      let more = length-append (row first) (rows_from (first + 1) rows) in
      omega (arith, more, length-row first, length-rows (first + 1) rows, suc-mul rows columns)

  pub length-grid : (rows : ℕ) → length (grid rows) ≡ rows * columns
  length-grid rows = length-rows 0 rows

  get-rows : (first rows r c : ℕ) (d : X) → r < rows → c < columns
      → get_or (rows_from first rows) (r * columns + c) d ≡ make (first + r) c
  get-rows first zero r c d below low = absurd (omega (arith, below))
  get-rows first (suc rows) zero c d below low =
      let at : 0 * columns + c ≡ c = omega arith in
      let same : first + 0 ≡ first = omega arith in
      let within : c < length (row first) = omega (arith, low, length-row first) in
      ap (λ (n : ℕ). get_or (row first ++ rows_from (first + 1) rows) n d) at
      ∙ get_or_append_left (row first) (rows_from (first + 1) rows) d c within
      ∙ get_or-map-range_with_len (λ k. make first k) 0 columns c c d low (omega arith)
      ∙ ap (λ (n : ℕ). make n c) (sym same)
  get-rows first (suc rows) (suc r) c d below low =
      let at : suc r * columns + c ≡ length (row first) + (r * columns + c) =
      omega (arith, suc-mul r columns, length-row first) in
      let next : first + 1 + r ≡ first + suc r = omega arith in
      ap (λ (n : ℕ). get_or (row first ++ rows_from (first + 1) rows) n d) at
      ∙ get_or-append-add (row first) (rows_from (first + 1) rows) (r * columns + c) d
      ∙ get-rows (first + 1) rows r c d (omega (arith, below)) low
      ∙ ap (λ (n : ℕ). make n c) next

  -- the item of a row and a column
  pub get-grid : (rows r c : ℕ) (d : X) → r < rows → c < columns
      → get_or (grid rows) (r * columns + c) d ≡ make r c
  get-grid rows r c d below low =
      let same : 0 + r ≡ r = omega arith in
      get-rows 0 rows r c d below low ∙ ap (λ (n : ℕ). make n c) same

  module _ (rows n : ℕ) (below : n < rows * columns) where
    pub some_columns : 0 < columns
    some_columns = by columns below
      where
        by : (w : ℕ) → n < rows * w → 0 < w
        by zero less = absurd (let none : rows * 0 ≡ 0 = omega arith in omega (arith, less, none))
        by (suc w) less = omega arith

    -- the row and the column of a number
    pub row-low : n / columns < rows
    row-low = (div-lt_iff_lt-mul some_columns).1 below

    pub column-low : n % columns < columns
    column-low = mod-lt n some_columns

    -- the item of a number
    pub get-number : (d : X) → get_or (grid rows) n d ≡ make (n / columns) (n % columns)
    get-number d =
        ap (λ (k : ℕ). get_or (grid rows) k d) (sym (div-add-mod' n columns))
        ∙ get-grid rows (n / columns) (n % columns) d row-low column-low

  -- what stands before an item, in this order, are the items of smaller numbers
  pub before-number : (before : X → X → Bool)
      → ((r c r' c' : ℕ)
      → before (make r c) (make r' c') ≡ (nat_lt r r' || (nat_eq r r' && nat_lt c c')))
      → (rows r c : ℕ) → r < rows → c < columns
      → filter (λ x. before x (make r c)) (grid rows) ≡ take (r * columns + c) (grid rows)
  before-number before tests rows r c below low =
      filter-first (λ x. before x (make r c)) (grid rows) (r * columns + c) (make r c)
      (λ k within.
      let less : k < rows * columns = omega (arith, within, length-grid rows) in
      ap (λ (x : X). before x (make r c)) (get-number rows k less (make r c))
      ∙ tests (k / columns) (k % columns) r c
      ∙ order_of_numbers columns (k / columns) (k % columns) r c k (r * columns + c)
      (sym (div-add-mod' k columns)) refl (column-low rows k less) low)

  -- what the items before one weigh
  module _ (weight : X → ℕ) (rows : ℕ) (d : X) where
    next-item : (r c : ℕ) → r < rows → c < columns
        → sum_by weight (take (suc (r * columns + c)) (grid rows))
        ≡ sum_by weight (take (r * columns + c) (grid rows)) + weight (make r c)
    next-item r c below low =
        let next : suc r * columns ≤ rows * columns =
        mul-le-mul_right columns (omega (arith, below)) in
        let within : r * columns + c < length (grid rows) =
        omega (arith, next, suc-mul r columns, low, length-grid rows) in
        ap (sum_by weight) (take-suc (grid rows) (r * columns + c) d within)
        ∙ sum_by-append weight (take (r * columns + c) (grid rows))
        (get_or (grid rows) (r * columns + c) d ∷ [])
        ∙ ap (λ (n : ℕ). sum_by weight (take (r * columns + c) (grid rows)) + n)
        (single weight (get_or (grid rows) (r * columns + c) d)
        ∙ ap weight (get-grid rows r c d below low))

    -- what is so far grows with each item by its weight
    module _ (so_far : ℕ → ℕ → ℕ) (none : so_far 0 0 ≡ 0)
        (rise : (r : ℕ) → so_far (suc r) 0 ≡ so_far r columns)
        (step : (r c : ℕ) → c < columns → so_far r (suc c) ≡ so_far r c + weight (make r c)) where
      in_row : (r c : ℕ) → r < rows → c ≤ columns
          → sum_by weight (take (r * columns + 0) (grid rows)) ≡ so_far r 0
          → sum_by weight (take (r * columns + c) (grid rows)) ≡ so_far r c
      in_row r zero below low first = first
      in_row r (suc c) below low first =
          let at : r * columns + suc c ≡ suc (r * columns + c) = omega arith in
          ap (λ (n : ℕ). sum_by weight (take n (grid rows))) at
          ∙ next-item r c below (omega (arith, low))
          ∙ ap (λ (n : ℕ). n + weight (make r c)) (in_row r c below (omega (arith, low)) first)
          ∙ sym (step r c (omega (arith, low)))

      first_in_row : (r : ℕ) → r < rows
          → sum_by weight (take (r * columns + 0) (grid rows)) ≡ so_far r 0
      first_in_row zero below =
          let at : 0 * columns + 0 ≡ 0 = omega arith in
          ap (λ (n : ℕ). sum_by weight (take n (grid rows))) at ∙ sym none
      first_in_row (suc r) below =
          let at : suc r * columns + 0 ≡ r * columns + columns = omega (arith, suc-mul r columns) in
          ap (λ (n : ℕ). sum_by weight (take n (grid rows))) at
          ∙ in_row r columns (omega (arith, below)) (omega arith)
          (first_in_row r (omega (arith, below)))
          ∙ sym (rise r)

      -- the items before one
      pub weighs : (r c : ℕ) → r < rows → c ≤ columns
          → sum_by weight (take (r * columns + c) (grid rows)) ≡ so_far r c
      weighs r c below low = in_row r c below low (first_in_row r below)

      -- and all of them
      pub weighs-all : (q : ℕ) → rows ≡ suc q → sum_by weight (grid rows) ≡ so_far rows 0
      weighs-all q is =
          let all : length (grid rows) ≡ q * columns + columns =
          length-grid rows ∙ ap (λ (n : ℕ). n * columns) is ∙ suc-mul q columns in
          sym (ap (sum_by weight) (take-length (grid rows)))
          ∙ ap (λ (n : ℕ). sum_by weight (take n (grid rows))) all
          ∙ weighs q columns (omega (arith, is)) (omega arith)
          ∙ sym (rise q)
          ∙ ap (λ (n : ℕ). so_far n 0) (sym is)

-- an item and those before it weigh no more than all
pub weigh-within : {X : Type 0} (weight : X → ℕ) (xs : List X) (n : ℕ) (d : X) → n < length xs
    → sum_by weight (take n xs) + weight (get_or xs n d) ≤ sum_by weight xs
weigh-within weight xs n d below =
    let front : sum_by weight (take (suc n) xs)
    ≡ sum_by weight (take n xs) + weight (get_or xs n d) =
    ap (sum_by weight) (take-suc xs n d below)
    ∙ sum_by-append weight (take n xs) (get_or xs n d ∷ [])
    ∙ ap (λ (k : ℕ). sum_by weight (take n xs) + k) (single weight (get_or xs n d)) in
    let whole : sum_by weight xs
    ≡ sum_by weight (take (suc n) xs) + sum_by weight (drop (suc n) xs) =
    ap (sum_by weight) (sym (take-append-drop (suc n) xs))
    ∙ sum_by-append weight (take (suc n) xs) (drop (suc n) xs) in
    omega (arith, front, whole)

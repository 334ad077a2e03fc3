-- The numbers of the cells that are ones, as they are found one by one.
use Rattle.std.proofs.Common.{All, ◌≡◌, ◌≤◌, ◌<◌, ◌+◌, ◌-◌, ◌++◌, ℕ, zero, suc, Bool, true, false}
use Rattle.std.proofs.Common.{cond, List, [], ◌∷◌, length, take, drop, filter, get_or, refl, ap}
use Rattle.std.proofs.Common.{sym, ◌∙◌, subst, arith, inl, inr, append_assoc, append-nil}
use Rattle.std.proofs.Common.{length-append, length-drop}
use Rattle.std.specs.List.{range_with_len}
use Rattle.std.proofs.lemmas.Bool.{cases_lt}
use Rattle.std.proofs.lemmas.List.{length-take-le, get_or_past, drop-drop}
use Rattle.std.proofs.lemmas.List.Elements.{All-nil, All-cons, All-weaker}
use Rattle.std.proofs.Math.Seq.{take-add, drop-cons, get_or-append_seam}
use Rattle.cell_bits.specs.Search.{HasNoOne}
use Rattle.flux_writer.specs.Written.{ones_of}

-- the numbers of the cells that are ones, where the first cell has this number
abbrev pub ones_from : ℕ → List Bool → List ℕ
ones_from number [] = []
ones_from number (cell ∷ cells) =
    cond cell (number ∷ ones_from (number + 1) cells) (ones_from (number + 1) cells)

-- those of the cells from one place to below another, where the first of these has this number
abbrev pub ones_between : List Bool → (from to number : ℕ) → List ℕ
ones_between cells from to number = ones_from number (take (to - from) (drop from cells))

pub ones_from-append : (n : ℕ) (xs ys : List Bool)
    → ones_from n (xs ++ ys) ≡ ones_from n xs ++ ones_from (n + length xs) ys
ones_from-append n [] ys = ap (λ m. ones_from m ys) (omega arith)
ones_from-append n (x ∷ xs) ys =
    let e : (n + 1) + length xs ≡ n + length (x ∷ xs) = omega arith in
    let rest =
    ones_from-append (n + 1) xs ys ∙ ap (λ m. ones_from (n + 1) xs ++ ones_from m ys) e in
    elim x as (λ b. cond b (n ∷ ones_from (n + 1) (xs ++ ys)) (ones_from (n + 1) (xs ++ ys))
    ≡ cond b (n ∷ ones_from (n + 1) xs) (ones_from (n + 1) xs)
    ++ ones_from (n + length (x ∷ xs)) ys) [
      | true ↦ ap (λ l. n ∷ l) rest
      | false ↦ rest
    ]

-- a cell that is a one lies in the list
one_within : (cells : List Bool) (q : ℕ) → get_or cells q false ≡ true → q < length cells
one_within cells q one = elim (cases_lt q (length cells)) [
  | inl inside ↦ inside
  | inr past ↦ absurd (other (sym (get_or_past cells q false past) ∙ one))
]
  where
    other : false ≡ true → ⊥
    other e = cc

-- no cell is a one
none_between : (cells : List Bool) (place count number : ℕ) → place + count ≤ length cells
    → ((k : ℕ) → k < count → get_or cells (place + k) false ≡ false)
    → ones_from number (take count (drop place cells)) ≡ []
none_between cells place zero number within zeros = refl
none_between cells place (suc count) number within zeros =
    let here : get_or cells place false ≡ false =
    ap (λ q. get_or cells q false) (omega arith) ∙ zeros 0 (omega arith) in
    ap (λ l. ones_from number (take (suc count) l)) (drop-cons cells place false (omega arith))
    ∙ ap (λ b. cond b (number ∷ ones_from (number + 1) (take count (drop (suc place) cells)))
    (ones_from (number + 1) (take count (drop (suc place) cells)))) here
    ∙ none_between cells (suc place) count (number + 1) (omega arith)
    (λ k below. ap (λ q. get_or cells q false) (omega arith) ∙ zeros (suc k) (omega arith))

-- the last of these cells alone is a one
one_between : (cells : List Bool) (place count number : ℕ) → place + count < length cells
    → ((k : ℕ) → k < count → get_or cells (place + k) false ≡ false)
    → get_or cells (place + count) false ≡ true
    → ones_from number (take (suc count) (drop place cells)) ≡ (number + count) ∷ []
one_between cells place count number within zeros one =
    let split : suc count ≡ count + 1 = omega arith in
    let last : place + count ≡ count + place = omega arith in
    ap (λ n. ones_from number (take n (drop place cells))) split
    ∙ ap (ones_from number) (take-add count 1 (drop place cells))
    ∙ ones_from-append number (take count (drop place cells))
    (take 1 (drop count (drop place cells)))
    ∙ ap
    (λ l.
    l
    ++ ones_from (number + length (take count (drop place cells)))
    (take 1 (drop count (drop place cells))))
    (none_between cells place count number (omega arith) zeros)
    ∙ ap (λ m. ones_from (number + m) (take 1 (drop count (drop place cells))))
    (length-take-le count (drop place cells) (omega (arith, length-drop place cells)))
    ∙ ap (λ l. ones_from (number + count) (take 1 l))
    (drop-drop-here ∙ drop-cons cells (place + count) false within)
    ∙ ap (λ b. ones_from (number + count) (b ∷ [])) one
  where
    drop-drop-here : drop count (drop place cells) ≡ drop (place + count) cells
    drop-drop-here = drop-drop count place cells ∙ ap (λ n. drop n cells) (omega arith)

-- cells up to a place, and those after it
pub ones_between-split : (cells : List Bool) (from place to number : ℕ) → from ≤ place → place ≤ to
    → to ≤ length cells
    → ones_between cells from to number ≡ ones_between cells from place number
    ++ ones_from (number + (place - from)) (take (to - place) (drop place cells))
ones_between-split cells from place to number start order within =
    let size : to - from ≡ (place - from) + (to - place) = omega arith in
    let front = take (place - from) (drop from cells) in
    let length_front : length front ≡ place - from =
    length-take-le (place - from) (drop from cells)
    (omega (arith, length-drop from cells, within)) in
    let here : drop (place - from) (drop from cells) ≡ drop place cells =
    drop-drop (place - from) from cells ∙ ap (λ m. drop m cells) (omega arith) in
    ap (λ m. ones_from number (take m (drop from cells))) size
    ∙ ap (ones_from number) (take-add (place - from) (to - place) (drop from cells))
    ∙ ones_from-append number front (take (to - place) (drop (place - from) (drop from cells)))
    ∙ ap
    (λ m.
    ones_from number front
    ++ ones_from (number + m) (take (to - place) (drop (place - from) (drop from cells))))
    length_front
    ∙ ap (λ l. ones_from number front ++ ones_from (number + (place - from)) (take (to - place) l))
    here

module _ (cells : List Bool) (from number : ℕ) where
  -- one more
  pub ones_between-one : (place one : ℕ) → from ≤ place → place ≤ one
      → get_or cells one false ≡ true → HasNoOne cells place one
      → ones_between cells from (one + 1) number
      ≡ ones_between cells from place number ++ (number + (one - from)) ∷ []
  ones_between-one place one start order stands nowhere =
      let inside : one < length cells = one_within cells one stands in
      let n = one - place in
      let size : (one + 1) - place ≡ suc n = omega arith in
      let at : place + n ≡ one = omega arith in
      let last : (number + (place - from)) + n ≡ number + (one - from) = omega arith in
      ones_between-split cells from place (one + 1) number start (omega arith)
      (omega (arith, inside))
      ∙ ap
      (λ m.
      ones_between cells from place number
      ++ ones_from (number + (place - from)) (take m (drop place cells))) size
      ∙ ap (λ l. ones_between cells from place number ++ l)
      (one_between cells place n (number + (place - from)) (omega (arith, at, inside))
      (λ k below. nowhere (place + k) (omega arith) (omega (arith, at, below)))
      (ap (λ q. get_or cells q false) at ∙ stands))
      ∙ ap (λ m. ones_between cells from place number ++ m ∷ []) last

  -- no more
  pub ones_between-none : (place to : ℕ) → from ≤ place → place ≤ to → to ≤ length cells
      → HasNoOne cells place to
      → ones_between cells from to number ≡ ones_between cells from place number
  ones_between-none place to start order within nowhere =
      ones_between-split cells from place to number start order within
      ∙ ap (λ l. ones_between cells from place number ++ l)
      (none_between cells place (to - place) (number + (place - from)) (omega arith)
      (λ k below. nowhere (place + k) (omega arith) (omega (arith, below))))
      ∙ append-nil (ones_between cells from place number)

  -- none yet
  pub ones_between-start : (place : ℕ) → place ≡ from → ones_between cells from place number ≡ []
  ones_between-start place is =
      let none : place - from ≡ 0 = omega (arith, is) in
      ap (λ m. ones_from number (take m (drop from cells))) none

-- the ones of a whole list
filter-range : (cells : List Bool) (done : List Bool)
    → filter (λ K. get_or (done ++ cells) K false) (range_with_len (length done) (length cells))
    ≡ ones_from (length done) cells
filter-range [] done = refl
filter-range (c ∷ cells) done =
    let K = length done in
    let same : (done ++ c ∷ []) ++ cells ≡ done ++ c ∷ cells = append_assoc done (c ∷ []) cells in
    let size : length (done ++ c ∷ []) ≡ K + 1 = length-append done (c ∷ []) in
    let rest : filter (λ k. get_or (done ++ c ∷ cells) k false)
    (range_with_len (K + 1) (length cells))
    ≡ ones_from (K + 1) cells =
    ap (λ l. filter (λ k. get_or l k false) (range_with_len (K + 1) (length cells))) (sym same)
    ∙ ap
    (λ n.
    filter (λ k. get_or ((done ++ c ∷ []) ++ cells) k false) (range_with_len n (length cells)))
    (sym size)
    ∙ filter-range cells (done ++ c ∷ []) ∙ ap (λ n. ones_from n cells) size in
    ap
    (λ b.
    cond b
    (K
    ∷ filter (λ k. get_or (done ++ c ∷ cells) k false) (range_with_len (K + 1) (length cells)))
    (filter (λ k. get_or (done ++ c ∷ cells) k false) (range_with_len (K + 1) (length cells))))
    (get_or-append_seam done c cells false)
    ∙ ap (λ l. cond c (K ∷ l) l) rest

pub ones_of-is : (cells : List Bool) → ones_of cells ≡ ones_from 0 cells
ones_of-is cells = filter-range cells []

-- each number is below all after it
abbrev pub Rises : List ℕ → Type 0
Rises [] = Unit {0}
Rises (x ∷ xs) = All (λ y. x < y) xs × Rises xs

-- the numbers of ones are at least that of the first cell, below that after the last, and rise
pub ones_within : (n : ℕ) (cells : List Bool)
    → All (λ k. (n ≤ k) × (k < n + length cells)) (ones_from n cells)
ones_within n [] = All-nil (λ k. (n ≤ k) × (k < n + 0))
ones_within n (c ∷ cells) =
    let rest = All-weaker (λ k. (n + 1 ≤ k) × (k < (n + 1) + length cells))
    (λ k. (n ≤ k) × (k < n + length (c ∷ cells)))
    (λ k in_range. (omega (arith, in_range.0), omega (arith, in_range.1))) (ones_from (n + 1) cells)
    (ones_within (n + 1) cells) in
    elim c as (λ b.
    All (λ k. (n ≤ k) × (k < n + length (c ∷ cells)))
    (cond b (n ∷ ones_from (n + 1) cells) (ones_from (n + 1) cells))) [
      | true ↦
          All-cons (λ k. (n ≤ k) × (k < n + length (c ∷ cells))) n (ones_from (n + 1) cells)
          (omega arith, omega arith) rest
      | false ↦ rest
    ]

pub ones_rise : (n : ℕ) (cells : List Bool) → Rises (ones_from n cells)
ones_rise n [] = tt
ones_rise n (c ∷ cells) =
    elim c as (λ b. Rises (cond b (n ∷ ones_from (n + 1) cells) (ones_from (n + 1) cells))) [
      | true ↦ (
        All-weaker (λ k. (n + 1 ≤ k) × (k < (n + 1) + length cells)) (λ k. n < k)
            (λ k in_range. omega (arith, in_range.0))
            (ones_from (n + 1) cells) (ones_within (n + 1) cells),
        ones_rise (n + 1) cells,
      )
      | false ↦ ones_rise (n + 1) cells
    ]

-- a cell that is a one is among the ones
pub one_among : (n : ℕ) (cells : List Bool) (p : ℕ) → get_or cells p false ≡ true
    → (i : ℕ) × (i < length (ones_from n cells)) × (get_or (ones_from n cells) i 0 ≡ n + p)
one_among n [] p is = absurd (false_true is)
  where
    false_true : false ≡ true → ⊥
    false_true e = cc
one_among n (c ∷ cells) zero is =
    subst
    (λ b.
    (i : ℕ) × (i < length (cond b (n ∷ ones_from (n + 1) cells) (ones_from (n + 1) cells)))
    × (get_or (cond b (n ∷ ones_from (n + 1) cells) (ones_from (n + 1) cells)) i 0 ≡ n + 0))
    (sym is) (0, omega arith, omega arith)
one_among n (c ∷ cells) (suc p) is =
    let rest = one_among (n + 1) cells p is in
    elim c as (λ b.
    (i : ℕ) × (i < length (cond b (n ∷ ones_from (n + 1) cells) (ones_from (n + 1) cells)))
    × (get_or (cond b (n ∷ ones_from (n + 1) cells) (ones_from (n + 1) cells)) i 0 ≡ n + suc p)) [
      | true ↦ (suc rest.0, omega (arith, rest.1), omega (arith, rest.2))
      | false ↦ (rest.0, rest.1, omega (arith, rest.2))
    ]

-- there are no more ones than cells
pub ones_few : (n : ℕ) (cells : List Bool) → length (ones_from n cells) ≤ length cells
ones_few n [] = omega arith
ones_few n (c ∷ cells) =
    let rest = ones_few (n + 1) cells in
    elim c as (λ b.
    length (cond b (n ∷ ones_from (n + 1) cells) (ones_from (n + 1) cells))
    ≤ length (c ∷ cells)) [
      | true ↦ omega (arith, rest)
      | false ↦ omega (arith, rest)
    ]

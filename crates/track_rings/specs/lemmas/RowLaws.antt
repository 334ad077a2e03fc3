-- What stands one after another, taken apart: its cells, how many they are, and the last one.
use Rattle.std.specs.Prelude.{◌≡◌, ℕ, ◌+◌, ◌*◌, ◌<◌, ◌≤◌, Bool, true, false, ◌&&◌, List, [], ◌∷◌}
use Rattle.std.specs.Prelude.{◌++◌, length, refl}
use Rattle.std.specs.List.{flat_map, range_with_len}
use Rattle.std.proofs.Common.{zero, suc, ap, sym, ◌∙◌, arith, append_assoc, length-append}
use Rattle.track_rings.specs.Rows.{TrackRow, coded, last_of, parts_of, total}

pub last_of-append : (before : Bool) (xs ys : List Bool)
    → last_of before (xs ++ ys) ≡ last_of (last_of before xs) ys
unfolding last_of
last_of-append before [] ys = refl
last_of-append before (cell ∷ xs) ys = last_of-append cell xs ys

pub total-append : {X : Type 0} (size_of : X → ℕ) (xs ys : List X)
    → total size_of (xs ++ ys) ≡ total size_of xs + total size_of ys
unfolding total
total-append size_of [] ys = omega arith
total-append size_of (x ∷ xs) ys = let e = total-append size_of xs ys in omega (arith, e)

-- so many lists, each of which has as much
pub total-each : {X : Type 0} (size_of : X → ℕ) (f : ℕ → List X) (size first count : ℕ)
    → ((n : ℕ) → first ≤ n → n < first + count → total size_of (f n) ≡ size)
    → total size_of (flat_map f (range_with_len first count)) ≡ count * size
unfolding total
total-each size_of f size first zero each = omega arith
total-each size_of f size first (suc count) each =
    let rest = flat_map f (range_with_len (first + 1) count) in
    let one = each first (omega arith) (omega arith) in
    let more = total-each size_of f size (first + 1) count
    (λ n least most. each n (omega arith) (omega arith)) in
    omega (arith, total-append size_of (f first) rest, one, more)

pub parts_of-append : {Row : Type 0} (sector : ℕ) (bytes : List ℕ) (xs ys : List Row)
    → parts_of sector bytes (xs ++ ys) ≡ parts_of sector bytes xs ++ parts_of sector bytes ys
parts_of-append sector bytes [] ys = refl
parts_of-append sector bytes (x ∷ xs) ys =
    ap (λ (parts : List (TrackRow _)). record { sector = sector; bytes = bytes; row = x } ∷ parts)
    (parts_of-append sector bytes xs ys)

module _ {X : Type 0} (asks : Bool) (cells_of : Bool → X → List Bool) where
  -- the cell that the next one asks for
  unfoldable pub bit_after : Bool → List X → Bool
  bit_after before [] = before
  bit_after before (x ∷ xs) = bit_after (asks && last_of before (cells_of before x)) xs

  pub coded-append : (before : Bool) (xs ys : List X)
      → coded asks cells_of before (xs ++ ys)
      ≡ coded asks cells_of before xs ++ coded asks cells_of (bit_after before xs) ys
  unfolding coded bit_after
  coded-append before [] ys = refl
  coded-append before (x ∷ xs) ys =
      let next = asks && last_of before (cells_of before x) in
      ap (λ (cells : List Bool). cells_of before x ++ cells) (coded-append next xs ys)
      ∙ sym
      (append_assoc (cells_of before x) (coded asks cells_of next xs)
      (coded asks cells_of (bit_after next xs) ys))

  -- a part, what is before it, and what is after it
  pub coded-parts : (before : Bool) (front part behind : List X)
      → coded asks cells_of before (front ++ (part ++ behind))
      ≡ coded asks cells_of before front
      ++ (coded asks cells_of (bit_after before front) part
      ++ coded asks cells_of (bit_after (bit_after before front) part) behind)
  coded-parts before front part behind =
      coded-append before front (part ++ behind)
      ∙ ap (λ (cells : List Bool). coded asks cells_of before front ++ cells)
      (coded-append (bit_after before front) part behind)

  pub bit_after-append : (before : Bool) (xs ys : List X)
      → bit_after before (xs ++ ys) ≡ bit_after (bit_after before xs) ys
  unfolding bit_after
  bit_after-append before [] ys = refl
  bit_after-append before (x ∷ xs) ys =
      bit_after-append (asks && last_of before (cells_of before x)) xs ys

  -- it is a zero where the coding does not ask
  pub bit_after-asked : (before : Bool) (xs : List X) → (asks && before) ≡ before
      → (asks && bit_after before xs) ≡ bit_after before xs
  unfolding bit_after
  bit_after-asked before [] is = is
  bit_after-asked before (x ∷ xs) is = bit_after-asked (asks && last_of before (cells_of before x))
      xs (and-twice asks (last_of before (cells_of before x)))
    where
      and-twice : (a b : Bool) → (a && (a && b)) ≡ (a && b)
      and-twice true b = refl
      and-twice false b = refl

  -- and the last cell, where it asks
  pub bit_after-last : (before : Bool) (xs : List X) → (asks && before) ≡ before
      → bit_after before xs ≡ (asks && last_of before (coded asks cells_of before xs))
  unfolding coded bit_after last_of
  bit_after-last before [] is = sym is
  bit_after-last before (x ∷ xs) is =
      let cells = cells_of before x in
      let next = asks && last_of before cells in
      bit_after-last next xs (and-twice asks (last_of before cells))
      ∙ last-after asks (last_of before cells) (coded asks cells_of next xs)
      ∙ ap (λ (cell : Bool). asks && cell)
      (sym (last_of-append before cells (coded asks cells_of next xs)))
    where
      and-twice : (a b : Bool) → (a && (a && b)) ≡ (a && b)
      and-twice true b = refl
      and-twice false b = refl

      last-after : (a b : Bool) (cells : List Bool)
          → (a && last_of (a && b) cells) ≡ (a && last_of b cells)
      last-after true b cells = refl
      last-after false b cells = refl

  module _ (size_of : X → ℕ)
      (sized : (before : Bool) (x : X) → length (cells_of before x) ≡ size_of x) where
    pub length-coded : (before : Bool) (xs : List X)
        → length (coded asks cells_of before xs) ≡ total size_of xs
    unfolding coded total
    length-coded before [] = refl
    length-coded before (x ∷ xs) =
        let next = asks && last_of before (cells_of before x) in
        let e = length-append (cells_of before x) (coded asks cells_of next xs) in
        omega (arith, e, sized before x, length-coded next xs)

-- Spaced cells: joined, unbroken, and with neighbouring ones as far apart as they say,
-- also where a ring begins anew.
use Rattle.std.specs.Prelude.{◌≡◌, ℕ, zero, suc, ◌+◌, ◌%◌, ◌<◌, ◌≤◌, Bool, true, false, ◌&&◌, List}
use Rattle.std.specs.Prelude.{[], ◌∷◌, ◌++◌, length, drop, get_or, replicate, nat_le, nat_lt, refl}
use Rattle.std.specs.List.{flat_map, range_with_len}
use Rattle.std.proofs.Common.{ap, sym, subst, ◌∙◌, arith, inl, inr, ◌⊎◌}
use Rattle.std.proofs.lemmas.Bool.{cases_lt}
use Rattle.std.proofs.lemmas.Bool.Decides.{nat_tests}
use Rattle.std.proofs.lemmas.List.{get_or-drop}
use Rattle.std.proofs.Math.Nat.{add-mod_right, mod-lt, mod-eq_of_lt}
use Rattle.cell_bits.specs.Broken.{Unbroken}
use Rattle.track_rings.specs.Rings.{IsSpaced, cell_of}
use Rattle.track_rings.specs.Rows.{coded, last_of}
use Rattle.track_rings.specs.lemmas.RowLaws.{bit_after, coded-append}
use Rattle.track_rings.specs.Spaced.{MayFollow, is_spaced, is_zero, zeros_after}
use Rattle.track_rings.specs.lemmas.Zeros.{NoZeroRun, cell-near, unbroken-front, zeros-unbroken}

first_true : (a b : Bool) → (a && b) ≡ true → a ≡ true
first_true true b holds = refl
first_true false b holds = holds

second_true : (a b : Bool) → (a && b) ≡ true → b ≡ true
second_true true b holds = holds
second_true false b holds = absurd (cc)

both_true : (a b : Bool) → a ≡ true → b ≡ true → (a && b) ≡ true
both_true true b first second = second
both_true false b first second = first

le-of : (a b : ℕ) → nat_le a b ≡ true → a ≤ b
le-of a b test = grind (arith, nat_tests)

lt-of : (a b : ℕ) → nat_lt a b ≡ true → a < b
lt-of a b test = grind (arith, nat_tests)

module _ (shortest longest : ℕ) where
  pub spaced-append : (seen : ℕ) (xs ys : List Bool) → is_spaced shortest longest seen xs ≡ true
      → is_spaced shortest longest (zeros_after seen xs) ys ≡ true
      → is_spaced shortest longest seen (xs ++ ys) ≡ true
  unfolding is_spaced zeros_after
  spaced-append seen [] ys first second = second
  spaced-append seen (true ∷ xs) ys first second =
      both_true (nat_le shortest (seen + 1)) _ (first_true (nat_le shortest (seen + 1)) _ first)
      (spaced-append 0 xs ys (second_true (nat_le shortest (seen + 1)) _ first) second)
  spaced-append seen (false ∷ xs) ys first second =
      both_true (nat_lt (seen + 1) longest) _ (first_true (nat_lt (seen + 1) longest) _ first)
      (spaced-append (seen + 1) xs ys (second_true (nat_lt (seen + 1) longest) _ first) second)

  pub spaced-drop : (seen : ℕ) (cells : List Bool) (place : ℕ)
      → is_spaced shortest longest seen cells ≡ true
      → (after : ℕ) × (is_spaced shortest longest after (drop place cells) ≡ true)
  unfolding is_spaced
  spaced-drop seen cells zero spaced = (seen, spaced)
  spaced-drop seen [] (suc place) spaced = (seen, spaced)
  spaced-drop seen (true ∷ cells) (suc place) spaced =
      spaced-drop 0 cells place (second_true (nat_le shortest (seen + 1)) _ spaced)
  spaced-drop seen (false ∷ cells) (suc place) spaced =
      spaced-drop (seen + 1) cells place (second_true (nat_lt (seen + 1) longest) _ spaced)

  -- so many zeros in a row
  few-zeros : (count seen : ℕ) (rest : List Bool) → 0 < count
      → is_spaced shortest longest seen (replicate count false ++ rest) ≡ true
      → seen + count < longest
  unfolding is_spaced
  few-zeros zero seen rest some spaced = absurd (omega arith)
  few-zeros (suc zero) seen rest some spaced =
      lt-of (seen + 1) longest (first_true (nat_lt (seen + 1) longest) _ spaced)
  few-zeros (suc (suc count)) seen rest some spaced =
      let more = few-zeros (suc count) (seen + 1) rest (omega arith)
      (second_true (nat_lt (seen + 1) longest) _ spaced) in
      omega (arith, more)

  pub spaced-zeros : (seen : ℕ) (cells : List Bool) → 0 < longest
      → is_spaced shortest longest seen cells ≡ true → NoZeroRun longest cells
  spaced-zeros seen cells some spaced place rest is =
      let after = spaced-drop seen cells place spaced in
      let run = few-zeros longest after.0 rest some
      (subst (λ (xs : List Bool). is_spaced shortest longest after.0 xs ≡ true) is after.1) in
      omega (arith, run)

  -- spaced cells are unbroken
  pub spaced-unbroken : (seen : ℕ) (cells : List Bool) (from to : ℕ) → 0 < longest → longest ≤ 8
      → is_spaced shortest longest seen cells ≡ true → Unbroken cells from to
  spaced-unbroken seen cells from to some few spaced =
      zeros-unbroken longest cells from to few (spaced-zeros seen cells some spaced)

  -- so many of the first cells, where they are spaced
  pub spaced-first : (seen : ℕ) (xs ys : List Bool) (count : ℕ) → 0 < longest → longest ≤ 8
      → is_spaced shortest longest seen xs ≡ true → count ≤ length xs → Unbroken (xs ++ ys) 0 count
  spaced-first seen xs ys count some few spaced size =
      unbroken-front xs ys count (spaced-unbroken seen xs 0 count some few spaced) size

  -- the first one after so many zeros
  next-one : (seen : ℕ) (cells : List Bool) (offset : ℕ)
      → is_spaced shortest longest seen cells ≡ true → get_or cells offset false ≡ true
      → ((k : ℕ) → k < offset → get_or cells k false ≡ false)
      → (shortest ≤ seen + offset + 1)
      × ((0 < longest → seen < longest → seen + offset < longest))
  unfolding is_spaced
  next-one seen [] offset spaced one zeros = absurd (cc)
  next-one seen (true ∷ cells) zero spaced one zeros =
      let test = le-of shortest (seen + 1) (first_true (nat_le shortest (seen + 1)) _ spaced) in
      (omega (arith, test), λ some low. omega (arith, low))
  next-one seen (true ∷ cells) (suc offset) spaced one zeros =
      absurd (let e = zeros 0 (omega arith) in cc)
  next-one seen (false ∷ cells) zero spaced one zeros = absurd (cc)
  next-one seen (false ∷ cells) (suc offset) spaced one zeros =
      let test = lt-of (seen + 1) longest (first_true (nat_lt (seen + 1) longest) _ spaced) in
      let more =
      next-one (seen + 1) cells offset (second_true (nat_lt (seen + 1) longest) _ spaced) one
      (λ k low. zeros (suc k) (omega arith)) in
      (omega (arith, more.0), λ some low. let rest = more.1 some test in omega (arith, rest))

  -- a one, and the next one
  after-one : (seen : ℕ) (cells : List Bool) (place : ℕ)
      → is_spaced shortest longest seen cells ≡ true → get_or cells place false ≡ true
      → is_spaced shortest longest 0 (drop (suc place) cells) ≡ true
  unfolding is_spaced
  after-one seen [] place spaced one = absurd (cc)
  after-one seen (true ∷ cells) zero spaced one = second_true (nat_le shortest (seen + 1)) _ spaced
  after-one seen (false ∷ cells) zero spaced one = absurd (cc)
  after-one seen (true ∷ cells) (suc place) spaced one =
      after-one 0 cells place (second_true (nat_le shortest (seen + 1)) _ spaced) one
  after-one seen (false ∷ cells) (suc place) spaced one =
      after-one (seen + 1) cells place (second_true (nat_lt (seen + 1) longest) _ spaced) one

  two-ones : (seen : ℕ) (cells : List Bool) (place distance : ℕ) → 0 < longest
      → is_spaced shortest longest seen cells ≡ true
      → 0 < distance → get_or cells place false ≡ true
      → get_or cells (place + distance) false ≡ true
      → ((k : ℕ) → 0 < k → k < distance → get_or cells (place + k) false ≡ false)
      → (shortest ≤ distance) × (distance ≤ longest)
  two-ones seen cells place zero some spaced above first next zeros = absurd (omega arith)
  two-ones seen cells place (suc distance) some spaced above first next zeros =
      let rest = drop (suc place) cells in
      let at : (k : ℕ) → get_or rest k false ≡ get_or cells (place + suc k) false = λ k.
      let e : suc place + k ≡ place + suc k = omega arith in
      get_or-drop (suc place) cells k false ∙ ap (λ (n : ℕ). get_or cells n false) e in
      let both =
      next-one 0 rest distance (after-one seen cells place spaced first) (at distance ∙ next)
      (λ k low. at k ∙ zeros (suc k) (omega arith) (omega arith)) in
      let most = both.1 some some in
      (omega (arith, both.0), omega (arith, most))

  -- a one, or zeros alone
  has-one : (cells : List Bool)
      → ((place : ℕ) × (place < length cells) × (get_or cells place false ≡ true))
      ⊎ (cells ≡ replicate (length cells) false)
  has-one [] = inr refl
  has-one (true ∷ cells) = inl (0, omega arith, refl)
  has-one (false ∷ cells) =
      elim (has-one cells) [
        | inl one ↦ inl (suc one.0, omega (arith, one.1), one.2)
        | inr zeros ↦ inr (ap (λ (rest : List Bool). false ∷ rest) zeros)
      ]

  -- a ring that is spaced also where it begins anew
  pub spaced-ring : (seen : ℕ) (ring : List Bool) → 0 < longest → longest ≤ length ring
      → is_spaced shortest longest seen (ring ++ ring) ≡ true → IsSpaced shortest longest ring
  spaced-ring seen ring some size spaced = record {
    has_one = elim (has-one ring) [
      | inl one ↦ (one.0, one.1, ap (λ (n : ℕ). get_or ring n false) (mod-eq_of_lt one.1) ∙ one.2)
      | inr zeros ↦ absurd (
          let run = few-zeros (length ring) seen ring (omega arith)
          (subst (λ (first : List Bool). is_spaced shortest longest seen (first ++ ring) ≡ true)
          zeros spaced) in
          omega (arith, run))
    ];
    apart = λ place distance near.
        let here = place % length ring in
        let low : here < length ring = mod-lt place (omega arith) in
        let at : (offset : ℕ) → offset ≤ length ring
        → get_or (ring ++ ring) (here + offset) false ≡ cell_of ring (place + offset) =
        λ offset within. cell-near ring place offset within (omega arith) in
        let close : distance ≤ length ring =
        elim (cases_lt (length ring) distance) [
          | inl far ↦ absurd (
              let again : cell_of ring (place + length ring) ≡ true =
              ap (λ (n : ℕ). get_or ring n false) (add-mod_right place (length ring))
              ∙ near.first in
              let none = near.zeros (length ring) (omega arith) far in
              cc)
          | inr within ↦ within
        ] in
        let e : here ≡ here + 0 = omega arith in
        let z : place + 0 ≡ place = omega arith in
        two-ones seen (ring ++ ring) here distance some spaced near.behind
        (ap (λ (n : ℕ). get_or (ring ++ ring) n false) e ∙ at 0 (omega arith) ∙ ap (cell_of ring) z
        ∙ near.first)
        (at distance close ∙ near.next)
        (λ k above below. at k (omega arith) ∙ near.zeros k above below);
  }

-- the last cell is a one where no zeros stand last
last-zeros : (before : Bool) (seen : ℕ) (cells : List Bool) → before ≡ is_zero seen
    → last_of before cells ≡ is_zero (zeros_after seen cells)
unfolding last_of zeros_after
last-zeros before seen [] is = is
last-zeros before seen (true ∷ cells) is = last-zeros true 0 cells refl
last-zeros before seen (false ∷ cells) is = last-zeros false (seen + 1) cells (no-zero seen)
  where
    no-zero : (n : ℕ) → false ≡ is_zero (n + 1)
    no-zero n = let e : n + 1 ≡ suc n = omega arith in ap is_zero (sym e)

bit-zeros : (asks : Bool) (seen : ℕ) (cells : List Bool)
    → (asks && last_of (asks && is_zero seen) cells) ≡ (asks && is_zero (zeros_after seen cells))
bit-zeros true seen cells = last-zeros (is_zero seen) seen cells refl
bit-zeros false seen cells = refl

pub zeros_after-append : (seen : ℕ) (xs ys : List Bool)
    → zeros_after seen (xs ++ ys) ≡ zeros_after (zeros_after seen xs) ys
unfolding zeros_after
zeros_after-append seen [] ys = refl
zeros_after-append seen (true ∷ xs) ys = zeros_after-append 0 xs ys
zeros_after-append seen (false ∷ xs) ys = zeros_after-append (seen + 1) xs ys

-- the zeros that stand last are seen from the last cell
pub bit_zero : (asks : Bool) (seen : ℕ) (cells : List Bool)
    → (asks && last_of (asks && is_zero seen) cells) ≡ false
    → (asks && is_zero (zeros_after seen cells)) ≡ false
bit_zero asks seen cells last = sym (bit-zeros asks seen cells) ∙ last

-- What may follow where the coding does not ask for the cell before.
module _ (shortest longest most : ℕ) where
  pub cells-append : (xs ys : List Bool) → MayFollow shortest longest most false (λ before. xs)
      → MayFollow shortest longest most false (λ before. ys)
      → MayFollow shortest longest most false (λ before. xs ++ ys)
  cells-append xs ys first second seen low =
      let one = first seen low in
      let two = second (zeros_after seen xs) one.1 in (
        spaced-append shortest longest seen xs ys one.0 two.0,
        subst (λ (n : ℕ). n ≤ most) (sym (zeros_after-append seen xs ys)) two.1,
      )

  pub cells-none : MayFollow shortest longest most false (λ before. [])
  unfolding is_spaced zeros_after
  cells-none seen low = (refl, low)

  pub cells-each : {X : Type 0} (f : X → List Bool)
      → ((x : X) → MayFollow shortest longest most false (λ before. f x)) → (xs : List X)
      → MayFollow shortest longest most false (λ before. flat_map f xs)
  cells-each f each [] = cells-none
  cells-each f each (x ∷ xs) = cells-append (f x) (flat_map f xs) (each x) (cells-each f each xs)

module _ (shortest longest most : ℕ) {X : Type 0} (asks : Bool)
    (cells_of : Bool → X → List Bool) where
  -- all of them may follow, one after another
  abbrev pub MayFollowAll : List X → Type 0
  MayFollowAll xs = MayFollow shortest longest most asks (λ before. coded asks cells_of before xs)

  bit-after : (seen : ℕ) (xs : List X)
      → bit_after asks cells_of (asks && is_zero seen) xs
      ≡ (asks && is_zero (zeros_after seen (coded asks cells_of (asks && is_zero seen) xs)))
  unfolding bit_after coded zeros_after
  bit-after seen [] = refl
  bit-after seen (x ∷ xs) =
      let before = asks && is_zero seen in
      let cells = cells_of before x in
      let after = zeros_after seen cells in
      let e : (asks && last_of before cells) ≡ (asks && is_zero after) =
      bit-zeros asks seen cells in
      ap (λ (bit : Bool). bit_after asks cells_of bit xs) e
      ∙ bit-after after xs
      ∙ ap (λ (bit : Bool). asks && is_zero (zeros_after after (coded asks cells_of bit xs)))
      (sym e)
      ∙ ap (λ (n : ℕ). asks && is_zero n)
      (sym
      (zeros_after-append seen cells (coded asks cells_of (asks && last_of before cells) xs)))

  pub follow-none : MayFollowAll []
  unfolding coded is_spaced zeros_after
  follow-none seen low = (refl, low)

  pub follow-append : (xs ys : List X) → MayFollowAll xs → MayFollowAll ys → MayFollowAll (xs ++ ys)
  follow-append xs ys first second seen low =
      let before = asks && is_zero seen in
      let cells = coded asks cells_of before xs in
      let one = first seen low in
      let two = second (zeros_after seen cells) one.1 in
      let bit = bit-after seen xs in
      let joined : coded asks cells_of before (xs ++ ys)
      ≡ cells ++ coded asks cells_of (asks && is_zero (zeros_after seen cells)) ys =
      coded-append asks cells_of before xs ys
      ∙ ap (λ (b : Bool). cells ++ coded asks cells_of b ys) bit in
      let then = coded asks cells_of (asks && is_zero (zeros_after seen cells)) ys in (
        ap (is_spaced shortest longest seen) joined ∙ spaced-append shortest longest seen cells
            then one.0 two.0,
        subst (λ (n : ℕ). n ≤ most)
            (sym (ap (zeros_after seen) joined ∙ zeros_after-append seen cells then)) two.1,
      )

  pub follow-one : (x : X) → MayFollow shortest longest most asks (λ before. cells_of before x)
      → MayFollowAll (x ∷ [])
  unfolding coded
  follow-one x may seen low =
      let before = asks && is_zero seen in
      let one = may seen low in
      let e = append-none (cells_of before x) in (
        ap (is_spaced shortest longest seen) e ∙ one.0,
        subst (λ (n : ℕ). n ≤ most) (sym (ap (zeros_after seen) e)) one.1,
      )
    where
      append-none : (cells : List Bool) → cells ++ [] ≡ cells
      append-none [] = refl
      append-none (cell ∷ cells) = ap (λ (rest : List Bool). cell ∷ rest) (append-none cells)

  pub follow-each : (f : ℕ → List X) (first count : ℕ)
      → ((n : ℕ) → first ≤ n → n < first + count → MayFollowAll (f n))
      → MayFollowAll (flat_map f (range_with_len first count))
  follow-each f first zero each = follow-none
  follow-each f first (suc count) each =
      follow-append (f first) (flat_map f (range_with_len (first + 1) count))
      (each first (omega arith) (omega arith))
      (follow-each f (first + 1) count (λ n least most. each n (omega arith) (omega arith)))

  -- as many zeros as the cell before tells
  seen-of : (a bit : Bool) → (a && bit) ≡ bit
      → (seen : ℕ) × (seen ≤ 1) × ((a && is_zero seen) ≡ bit)
  seen-of true true asked = (0, omega arith, refl)
  seen-of true false asked = (1, omega arith, refl)
  seen-of false bit asked = (1, omega arith, asked)

  -- so they are unbroken, and so many of their first cells whatever comes after them
  pub follow-unbroken : (bit : Bool) (xs : List X) (rest : List Bool) (count : ℕ)
      → (asks && bit) ≡ bit → 1 ≤ most → 0 < longest → longest ≤ 8
      → MayFollowAll xs → count ≤ length (coded asks cells_of bit xs)
      → Unbroken (coded asks cells_of bit xs ++ rest) 0 count
  follow-unbroken bit xs rest count asked zeros some few all size =
      let seen = seen-of asks bit asked in
      let spaced = (all seen.0 (omega (arith, seen.1, zeros))).0 in
      spaced-first shortest longest seen.0 (coded asks cells_of bit xs) rest count some few
      (subst (λ (b : Bool). is_spaced shortest longest seen.0 (coded asks cells_of b xs) ≡ true)
      seen.2 spaced) size

  -- so a ring of them is spaced, where the cell that its first row asks
  -- for is that before its first one
  pub follow-ring : (xs : List X) → 0 < longest → 1 ≤ most
      → longest ≤ length (coded asks cells_of false xs) → MayFollowAll xs
      → (asks && last_of false (coded asks cells_of false xs)) ≡ false
      → IsSpaced shortest longest (coded asks cells_of false xs)
  follow-ring xs some zeros size all last =
      let ring = coded asks cells_of false xs in
      let opened : (asks && is_zero 1) ≡ false = and-false asks in
      let same : coded asks cells_of (asks && is_zero 1) xs ≡ ring =
      ap (λ (bit : Bool). coded asks cells_of bit xs) opened in
      let twice : coded asks cells_of (asks && is_zero 1) (xs ++ xs) ≡ ring ++ ring =
      coded-append asks cells_of (asks && is_zero 1) xs xs
      ∙ ap
      (λ (bit : Bool). coded asks cells_of (asks && is_zero 1) xs ++ coded asks cells_of bit xs)
      (bit-after 1 xs ∙ bit_zero asks 1 (coded asks cells_of (asks && is_zero 1) xs)
      (ap (λ (bit : Bool). asks && last_of bit (coded asks cells_of bit xs)) opened ∙ last))
      ∙ ap (λ (bit : Bool). coded asks cells_of bit xs ++ coded asks cells_of false xs) opened in
      let both = follow-append xs xs all all 1 zeros in
      spaced-ring shortest longest 1 ring some size
      (subst (λ (cells : List Bool). is_spaced shortest longest 1 cells ≡ true) twice both.0)
    where
      and-false : (a : Bool) → (a && false) ≡ false
      and-false true = refl
      and-false false = refl

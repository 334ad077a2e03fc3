-- Digits of shifted, joined and masked numbers.
use Rattle.std.proofs.Common.{◌≡◌, ℕ, ◌+◌, ◌-◌, ◌*◌, ◌/◌, ◌%◌, ◌^◌, ◌<◌, ◌≤◌, max, Bool, false, ◌==◌, ◌⊎◌, inl, inr, sym, ap, ◌∙◌, subst, arith, bit_and, bit_or, List, get_or}
use Rattle.std.specs.Int.{bit_at}
use Rattle.std.proofs.lemmas.Bool.{cases_lt}
use Rattle.std.proofs.lemmas.Bool.Decides.{nat_tests}
use Rattle.std.proofs.lemmas.Nat.{pow_pos, shr-shr, shr_split}
use Rattle.std.proofs.lemmas.Nat.Bits.{bit_at_above, bit_at_cat_low, bit_at_cat_high, bit_at_or, shr_and_one}
use Rattle.cell_bits.specs.Word.{digit}
use Rattle.cell_bits.specs.inside.Window.{cell_of_two, IsJoined, IsRest, IsWindow}

bit_at-mod : (value width place : ℕ) → place < width → bit_at (value % 2 ^ width) place ≡ bit_at value place
bit_at-mod value width place low =
    sym (bit_at_cat_low (value / 2 ^ width) width (value % 2 ^ width) place low) ∙ ap (λ n. bit_at n place) (shr_split value width)

bit_at-shl_low : (value k place : ℕ) → place < k → bit_at (value * 2 ^ k) place ≡ 0
bit_at-shl_low value k place low =
    let e : value * 2 ^ k ≡ value * 2 ^ k + 0 = omega arith in
    let none : bit_at 0 place ≡ 0 = bit_at_above 0 0 place (pow_pos 0) (omega arith) in
    ap (λ n. bit_at n place) e ∙ bit_at_cat_low value k 0 place low ∙ none

bit_at-shl_high : (value k place : ℕ) → k ≤ place → bit_at (value * 2 ^ k) place ≡ bit_at value (place - k)
bit_at-shl_high value k place high =
    let e : value * 2 ^ k ≡ value * 2 ^ k + 0 = omega arith in
    ap (λ n. bit_at n place) e ∙ bit_at_cat_high value k 0 place (pow_pos k) high

pub bit_at-shr : (value k place : ℕ) → bit_at (value / 2 ^ k) place ≡ bit_at value (k + place)
bit_at-shr value k place = ap (λ n. n % 2) (shr-shr value k place)

pub digit-shr : (value k place : ℕ) → digit (value / 2 ^ k) place ≡ digit value (k + place)
digit-shr value k place = ap (λ bit. bit == 1) (bit_at-shr value k place)

pub digit-mod : (value width place : ℕ) → place < width → digit (value % 2 ^ width) place ≡ digit value place
digit-mod value width place low = ap (λ bit. bit == 1) (bit_at-mod value width place low)

pub digit-shl : (value shift place : ℕ) → place < 64 → shift ≤ place → digit (value * 2 ^ shift % 2 ^ 64) place ≡ digit value (place - shift)
digit-shl value shift place low high =
    ap (λ bit. bit == 1) (bit_at-mod (value * 2 ^ shift) 64 place low ∙ bit_at-shl_high value shift place high)

cell_of_two-high : (high low k : ℕ) → k < 64 → cell_of_two high low k ≡ digit high (63 - k)
cell_of_two-high high low k within = grind (arith, nat_tests)

cell_of_two-low : (high low k : ℕ) → 64 ≤ k → cell_of_two high low k ≡ digit low (127 - k)
cell_of_two-low high low k past = grind (arith, nat_tests)

pub joined-none : (high low : ℕ) → IsJoined high low 0 high
joined-none high low k within =
    let e : 0 + k ≡ k = omega arith in
    sym (ap (cell_of_two high low) e ∙ cell_of_two-high high low k within)

pub joined-shifted : (high low shift : ℕ) → 0 < shift → shift < 64 → high < 2 ^ 64 → low < 2 ^ 64
    → IsJoined high low shift (bit_or (high * 2 ^ shift % 2 ^ 64) (low / 2 ^ (64 - shift)))
joined-shifted high low shift some few high_fits low_fits k within = by_place (cases_lt (shift + k) 64)
  where
    either : bit_at (bit_or (high * 2 ^ shift % 2 ^ 64) (low / 2 ^ (64 - shift))) (63 - k) ≡ max (bit_at (high * 2 ^ shift) (63 - k)) (bit_at low (64 - shift + (63 - k)))
    either =
        bit_at_or (high * 2 ^ shift % 2 ^ 64) (low / 2 ^ (64 - shift)) (63 - k)
        ∙ ap (λ bit. max bit (bit_at (low / 2 ^ (64 - shift)) (63 - k))) (bit_at-mod (high * 2 ^ shift) 64 (63 - k) (omega arith))
        ∙ ap (max (bit_at (high * 2 ^ shift) (63 - k))) (bit_at-shr low (64 - shift) (63 - k))

    by_place : (shift + k < 64) ⊎ (64 ≤ shift + k) → digit (bit_or (high * 2 ^ shift % 2 ^ 64) (low / 2 ^ (64 - shift))) (63 - k) ≡ cell_of_two high low (shift + k)
    by_place (inl first) =
        let e : 63 - k - shift ≡ 63 - (shift + k) = omega arith in
        let above : bit_at low (64 - shift + (63 - k)) ≡ 0 = bit_at_above low 64 (64 - shift + (63 - k)) low_fits (omega arith) in
        let shown : bit_at (high * 2 ^ shift) (63 - k) ≡ bit_at high (63 - (shift + k)) = bit_at-shl_high high shift (63 - k) (omega arith) ∙ ap (bit_at high) e in
        let all : max (bit_at (high * 2 ^ shift) (63 - k)) (bit_at low (64 - shift + (63 - k))) ≡ bit_at high (63 - (shift + k)) = omega arith in
        ap (λ bit. bit == 1) (either ∙ all) ∙ sym (cell_of_two-high high low (shift + k) first)
    by_place (inr second) =
        let e : 64 - shift + (63 - k) ≡ 127 - (shift + k) = omega arith in
        let none : bit_at (high * 2 ^ shift) (63 - k) ≡ 0 = bit_at-shl_low high shift (63 - k) (omega arith) in
        let all : max (bit_at (high * 2 ^ shift) (63 - k)) (bit_at low (64 - shift + (63 - k))) ≡ bit_at low (64 - shift + (63 - k)) = omega arith in
        ap (λ bit. bit == 1) (either ∙ all ∙ ap (bit_at low) e) ∙ sym (cell_of_two-low high low (shift + k) second)

pub rest-none : (low : ℕ) → IsRest low 0 low
rest-none low k within =
    let at : k ≡ 0 + k = omega arith in
    ap (λ n. digit low (63 - n)) at

-- a block that moves over two blocks takes in the next cell of the second, and of this one less is left
module _ (high low moved cells rest : ℕ) (few : moved < 64) (shown : IsJoined high low moved cells) (left : IsRest low moved rest) where
  pub joined-next : (next : ℕ) → IsJoined cells rest 1 next → IsJoined high low (moved + 1) next
  joined-next next joint k within = joint k within ∙ by_place (cases_lt (1 + k) 64)
    where
      by_place : (1 + k < 64) ⊎ (64 ≤ 1 + k) → cell_of_two cells rest (1 + k) ≡ cell_of_two high low (moved + 1 + k)
      by_place (inl here) =
          let at : moved + (1 + k) ≡ moved + 1 + k = omega arith in
          cell_of_two-high cells rest (1 + k) here ∙ shown (1 + k) here ∙ ap (cell_of_two high low) at
      by_place (inr last) =
          let first : 127 - (1 + k) ≡ 63 - 0 = omega arith in
          let at : 63 - (moved + 0) ≡ 127 - (moved + 1 + k) = omega arith in
          cell_of_two-low cells rest (1 + k) last ∙ ap (digit rest) first ∙ left 0 (omega arith) ∙ ap (digit low) at
          ∙ sym (cell_of_two-low high low (moved + 1 + k) (omega arith))

  pub rest-next : IsRest low (moved + 1) (rest * 2 ^ 1 % 2 ^ 64)
  rest-next k within =
      let at : 63 - k - 1 ≡ 63 - (k + 1) = omega arith in
      let there : 63 - (moved + (k + 1)) ≡ 63 - (moved + 1 + k) = omega arith in
      ap (λ bit. bit == 1) (bit_at-mod (rest * 2 ^ 1) 64 (63 - k) (omega arith) ∙ bit_at-shl_high rest 1 (63 - k) (omega arith))
      ∙ ap (digit rest) at ∙ left (k + 1) (omega arith) ∙ ap (digit low) there

-- two blocks of the list, one after the other
pub two_windows : (cells : List Bool) (place high low : ℕ) → IsWindow cells place high → IsWindow cells (place + 64) low
    → (k : ℕ) → k < 128 → cell_of_two high low k ≡ get_or cells (place + k) false
two_windows cells place high low first second k within = by_place (cases_lt k 64)
  where
    by_place : (k < 64) ⊎ (64 ≤ k) → cell_of_two high low k ≡ get_or cells (place + k) false
    by_place (inl here) = cell_of_two-high high low k here ∙ first k here
    by_place (inr there) =
        let e : 63 - (k - 64) ≡ 127 - k = omega arith in
        let at : place + 64 + (k - 64) ≡ place + k = omega arith in
        cell_of_two-low high low k there ∙ ap (digit low) (sym e) ∙ second (k - 64) (omega arith) ∙ ap (λ n. get_or cells n false) at

pub window-joined : (cells : List Bool) (place shift high low block : ℕ) → shift < 64 → IsWindow cells place high → IsWindow cells (place + 64) low
    → IsJoined high low shift block → IsWindow cells (place + shift) block
window-joined cells place shift high low block few first second joint k within =
    let at : place + (shift + k) ≡ place + shift + k = omega arith in
    joint k within ∙ two_windows cells place high low first second (shift + k) (omega arith) ∙ ap (λ n. get_or cells n false) at

pub window-split : (cells : List Bool) (place high low block : ℕ) → IsWindow cells (64 * (place / 64)) high → IsWindow cells (64 * (place / 64 + 1)) low
    → IsJoined high low (place % 64) block → IsWindow cells place block
window-split cells place high low block first second joint =
    let next : 64 * (place / 64 + 1) ≡ 64 * (place / 64) + 64 = omega arith in
    let here : 64 * (place / 64) + place % 64 ≡ place = omega arith in
    subst (λ n. IsWindow cells n block) here
    (window-joined cells (64 * (place / 64)) (place % 64) high low block (omega arith) first (subst (λ n. IsWindow cells n low) next second) joint)

-- one cell of a block
pub cell-split : (cells : List Bool) (place block : ℕ) → IsWindow cells (64 * (place / 64)) block
    → (bit_and (block / 2 ^ (63 - place % 64)) 1 == 1) ≡ get_or cells place false
cell-split cells place block shown =
    let here : 64 * (place / 64) + place % 64 ≡ place = omega arith in
    ap (λ bit. bit == 1) (shr_and_one block (63 - place % 64)) ∙ shown (place % 64) (omega arith) ∙ ap (λ n. get_or cells n false) here

-- the cells of a block from a place on, shifted to the front, with zeros after them
module _ (cells : List Bool) (place block : ℕ) (shown : IsWindow cells (64 * (place / 64)) block) where
  pub shifted-cell : (k : ℕ) → k + place % 64 < 64 → digit (block * 2 ^ (place % 64) % 2 ^ 64) (63 - k) ≡ get_or cells (place + k) false
  shifted-cell k within =
      let at : 63 - k - place % 64 ≡ 63 - (place % 64 + k) = omega arith in
      let here : 64 * (place / 64) + (place % 64 + k) ≡ place + k = omega arith in
      ap (λ bit. bit == 1) (bit_at-mod (block * 2 ^ (place % 64)) 64 (63 - k) (omega arith) ∙ bit_at-shl_high block (place % 64) (63 - k) (omega arith))
      ∙ ap (digit block) at ∙ shown (place % 64 + k) (omega arith) ∙ ap (λ n. get_or cells n false) here

  pub shifted-past : (k : ℕ) → k < 64 → 64 ≤ k + place % 64 → digit (block * 2 ^ (place % 64) % 2 ^ 64) (63 - k) ≡ false
  shifted-past k within past =
      ap (λ bit. bit == 1) (bit_at-mod (block * 2 ^ (place % 64)) 64 (63 - k) (omega arith) ∙ bit_at-shl_low block (place % 64) (63 - k) (omega arith))

-- The places of a block where a word may begin, a digit each.
use Rattle.std.proofs.Common.{◌≡◌, ℕ, suc, ◌+◌, ◌-◌, ◌*◌, ◌/◌, ◌%◌, ◌^◌, ◌<◌, ◌≤◌, min, Bool, List, length, set, slice_index, true, false, ◌==◌, ◌⊎◌, inl, inr, ◌↔◌, refl, sym, ap, ◌∙◌, subst, arith, bit_and, pow-suc}
use Rattle.std.specs.Int.{bit_at, bit_not, w64}
use Rattle.std.proofs.lemmas.Bool.{cases_lt}
use Rattle.std.proofs.lemmas.Bool.Decides.{nat_tests}
use Rattle.std.proofs.lemmas.List.{get_or-set_same, get_or-set_other}
use Rattle.std.proofs.lemmas.Nat.Bits.{bit_at-lt, bit_at-zero, bit_at_and, bit_at_not, bit_at_ones, bit_at_above, shr_and_one}
use Rattle.std.proofs.lemmas.Nat.{leading_top, shr_high}
use Rattle.std.specs.Int.Count.{count_leading_zeros}
use Rattle.cell_bits.specs.Word.{digit}
use Rattle.cell_bits.specs.inside.Window.{cell_of_two, IsJoined, MeetsAt, AreCandidates, AreCellsOf, AreLeftOf, BeginsWithOnes, OnesStandAt, StandAt}
use Rattle.cell_bits.proofs.Joining.{digit-shl}

-- a test of a digit
from_digit : (value place : ℕ) → digit value place ≡ true → bit_at value place ≡ 1
from_digit value place e = grind (arith, nat_tests)

to_digit : (value place : ℕ) → bit_at value place ≡ 1 → digit value place ≡ true
to_digit value place e = grind (arith, nat_tests)

to_no_digit : (value place : ℕ) → bit_at value place ≡ 0 → digit value place ≡ false
to_no_digit value place e = grind (arith, nat_tests)

pub from_no_digit : (value place : ℕ) → digit value place ≡ false → bit_at value place ≡ 0
from_no_digit value place e = let low : bit_at value place < 2 = bit_at-lt value place in grind (arith, nat_tests)

pub digit-tested : (value place : ℕ) → (bit_and (value / 2 ^ place) 1 == 1) ≡ digit value place
digit-tested value place = ap (λ bit. bit == 1) (shr_and_one value place)

-- a bit that is not 0 is a one
pub digit-shown : (value place : ℕ) → ¬ (bit_and (value / 2 ^ place) 1 ≡ 0) → digit value place ≡ true
digit-shown value place some =
    let bit : bit_at value place < 2 = bit_at-lt value place in
    to_digit value place (omega (arith, some, shr_and_one value place))

-- one more of the first cells is a one
pub ones-more : (value count offset : ℕ) → ((i : ℕ) → i < offset → digit value (count - 1 - i) ≡ true)
    → digit value (count - 1 - offset) ≡ true → (i : ℕ) → i < offset + 1 → digit value (count - 1 - i) ≡ true
ones-more value count offset so_far here i few = elim (cases_lt i offset) [
  | inl before ↦ so_far i before
  | inr last ↦
      let same : offset ≡ i = omega (arith, few, last) in
      subst (λ (n : ℕ). digit value (count - 1 - n) ≡ true) same here
]

pub digit-not : (value place : ℕ) → value < 2 ^ 64 → place < 64 → (digit (bit_not w64 value) place ≡ true) ↔ (digit value place ≡ false)
digit-not value place fits low =
    let other : bit_at (bit_not w64 value) place ≡ 1 - bit_at value place = bit_at_not w64 value place fits low in
    let bit : bit_at value place < 2 = bit_at-lt value place in (
      λ e. to_no_digit value place (omega (arith, from_digit (bit_not w64 value) place e)),
      λ e. to_digit (bit_not w64 value) place (omega (arith, from_no_digit value place e)),
    )

digit-and : (a b place : ℕ) → (digit (bit_and a b) place ≡ true) ↔ ((digit a place ≡ true) × (digit b place ≡ true))
digit-and a b place =
    let both : bit_at (bit_and a b) place ≡ min (bit_at a place) (bit_at b place) = bit_at_and a b place in
    let first : bit_at a place < 2 = bit_at-lt a place in
    let second : bit_at b place < 2 = bit_at-lt b place in (
      λ e. let one : bit_at (bit_and a b) place ≡ 1 = from_digit (bit_and a b) place e in (to_digit a place (omega arith), to_digit b place (omega arith)),
      λ e. to_digit (bit_and a b) place (omega (arith, from_digit a place e.0, from_digit b place e.1)),
    )

pub zero-digit : (place : ℕ) → digit 0 place ≡ false
zero-digit place = ap (λ bit. bit == 1) (bit_at-zero place)

-- a cell of the first of two blocks, and one of the second
in-first : (high low j : ℕ) → j < 64 → cell_of_two high low j ≡ digit high (63 - j)
in-first high low j first = grind (arith, nat_tests)

in-second : (high low j : ℕ) → 64 ≤ j → cell_of_two high low j ≡ digit low (127 - j)
in-second high low j second = grind (arith, nat_tests)

module _ (high low : ℕ) (offsets : List ℕ) (one : Bool) where
  -- one more of the rarer cells is looked at
  pub rarer-more : (index places cells equal : ℕ)
      → ((k : ℕ) → k < 64 → StandAt high low offsets index one k → digit places (63 - k) ≡ true)
      → IsJoined high low (slice_index offsets index) cells
      → ((k : ℕ) → k < 64 → (digit equal (63 - k) ≡ true) ↔ (digit cells (63 - k) ≡ one))
      → (k : ℕ) → k < 64 → StandAt high low offsets (index + 1) one k → digit (bit_and places equal) (63 - k) ≡ true
  rarer-more index places cells equal so_far joint told k within stand =
      let early : StandAt high low offsets index one k = λ i less. stand i (omega (arith, less)) in
      let turned : k + slice_index offsets index ≡ slice_index offsets index + k = omega arith in
      let here : digit cells (63 - k) ≡ one = joint k within ∙ ap (cell_of_two high low) (sym turned) ∙ stand index (omega arith) in
      (digit-and places equal (63 - k)).1 (so_far k within early, (told k within).1 here)

  -- where no place is left, they stand nowhere
  pub rarer-none : (index many places : ℕ) → index ≤ many → places ≡ 0
      → ((k : ℕ) → k < 64 → StandAt high low offsets index one k → digit places (63 - k) ≡ true)
      → (k : ℕ) → k < 64 → ¬ StandAt high low offsets many one k
  rarer-none index many places few none so_far k within stand =
      let yes : digit places (63 - k) ≡ true = so_far k within (λ i less. stand i (omega (arith, less, few))) in
      let no : digit places (63 - k) ≡ false = ap (λ (n : ℕ). digit n (63 - k)) none ∙ zero-digit (63 - k) in
      cc

-- one more of them
pub cells-push : (word count offset many : ℕ) (offsets : List ℕ) (one : Bool) → AreCellsOf word count offsets many one → many < length offsets
    → offset < count → digit word (count - 1 - offset) ≡ one → AreCellsOf word count (set offsets many offset) (many + 1) one
cells-push word count offset many offsets one cells inside within is index early =
    let P : ℕ → Type 0 = λ n. (n < count) × (digit word (count - 1 - n) ≡ one) in
    elim (cases_lt index many) [
      | inl less ↦ subst P (sym (get_or-set_other offsets many index offset 0 (λ same. omega (arith, less, same)))) (cells index less)
      | inr more ↦
          let same : many ≡ index = omega (arith, early, more) in
          let Q : ℕ → Type 0 = λ k. P (slice_index (set offsets many offset) k) in
          subst Q same (subst P (sym (get_or-set_same offsets many offset 0 inside)) (within, is))
    ]

-- before one is looked at, each place may do
pub rarer-all : (k : ℕ) → k < 64 → digit (2 ^ 64 - 1) (63 - k) ≡ true
rarer-all k within = to_digit (2 ^ 64 - 1) (63 - k) (bit_at_ones 64 (63 - k) (omega arith))

-- so the word stands nowhere
pub word-nowhere : (high low word count : ℕ) (offsets : List ℕ) (many : ℕ) (one : Bool) → AreCellsOf word count offsets many one
    → ((k : ℕ) → k < 64 → ¬ StandAt high low offsets many one k) → AreCandidates high low word count count 0
word-nowhere high low word count offsets many one cells nowhere k within = (
  λ yes. let no : digit 0 (63 - k) ≡ false = zero-digit (63 - k) in absurd cc,
  λ meets. absurd (nowhere k within (λ index less. meets (slice_index offsets index) (cells index less).0 ∙ (cells index less).1)),
)

-- where two ones stand so far apart, one is left
pub apart-ones : (high low apart joint : ℕ) → apart < 64 → IsJoined high low apart joint → (j : ℕ) → j + apart < 128
    → cell_of_two high low j ≡ true → cell_of_two high low (j + apart) ≡ true
    → cell_of_two (bit_and high joint) (bit_and low (low * 2 ^ apart % 2 ^ 64)) j ≡ true
apart-ones high low apart joint few joins j within one other = by_place (cases_lt j 64)
  where
    by_place : (j < 64) ⊎ (64 ≤ j) → cell_of_two (bit_and high joint) (bit_and low (low * 2 ^ apart % 2 ^ 64)) j ≡ true
    by_place (inl first) =
        let order : apart + j ≡ j + apart = omega arith in
        let here : digit high (63 - j) ≡ true = sym (in-first high low j first) ∙ one in
        let there : digit joint (63 - j) ≡ true = joins j first ∙ ap (cell_of_two high low) order ∙ other in
        in-first (bit_and high joint) _ j first ∙ (digit-and high joint (63 - j)).1 (here, there)
    by_place (inr second) =
        let here : digit low (127 - j) ≡ true = sym (in-second high low j second) ∙ one in
        let away : 127 - (j + apart) ≡ 127 - j - apart = omega arith in
        let there : digit low (127 - j - apart) ≡ true =
        ap (digit low) (sym away) ∙ sym (in-second high low (j + apart) (omega (arith, second))) ∙ other in
        let moved : digit (low * 2 ^ apart % 2 ^ 64) (127 - j) ≡ true =
        digit-shl low apart (127 - j) (omega (arith, second)) (omega (arith, within)) ∙ there in
        in-second (bit_and high joint) _ j second ∙ (digit-and low (low * 2 ^ apart % 2 ^ 64) (127 - j)).1 (here, moved)

module _ (high low pairs low_pairs fours low_fours eights low_eights : ℕ) where
  -- with each step ones are left where twice as many stand
  pub eights-none : eights ≡ 0
      → ((j : ℕ) → j + 1 < 128 → cell_of_two high low j ≡ true → cell_of_two high low (j + 1) ≡ true → cell_of_two pairs low_pairs j ≡ true)
      → ((j : ℕ) → j + 2 < 128 → cell_of_two pairs low_pairs j ≡ true → cell_of_two pairs low_pairs (j + 2) ≡ true → cell_of_two fours low_fours j ≡ true)
      → ((j : ℕ) → j + 4 < 128 → cell_of_two fours low_fours j ≡ true → cell_of_two fours low_fours (j + 4) ≡ true → cell_of_two eights low_eights j ≡ true)
      → (k : ℕ) → k < 64 → ¬ OnesStandAt high low 8 k
  eights-none none to_pairs to_fours to_eights k within ones =
      let yes : digit eights (63 - k) ≡ true = sym (in-first eights low_eights k within) ∙ eight in
      let no : digit eights (63 - k) ≡ false = ap (λ (n : ℕ). digit n (63 - k)) none ∙ zero-digit (63 - k) in
      cc
    where
      pair : (i : ℕ) → i + 1 < 8 → cell_of_two pairs low_pairs (k + i) ≡ true
      pair i inside =
          let next : k + (i + 1) ≡ k + i + 1 = omega arith in
          to_pairs (k + i) (omega (arith, within, inside)) (ones i (omega (arith, inside)))
          (ap (cell_of_two high low) (sym next) ∙ ones (i + 1) inside)

      four : (i : ℕ) → i + 3 < 8 → cell_of_two fours low_fours (k + i) ≡ true
      four i inside =
          let next : k + (i + 2) ≡ k + i + 2 = omega arith in
          to_fours (k + i) (omega (arith, within, inside)) (pair i (omega (arith, inside)))
          (ap (cell_of_two pairs low_pairs) (sym next) ∙ pair (i + 2) (omega (arith, inside)))

      eight : cell_of_two eights low_eights k ≡ true
      eight =
          let here : k + 0 ≡ k = omega arith in
          to_eights k (omega (arith, within)) (ap (cell_of_two fours low_fours) (sym here) ∙ four 0 (omega arith)) (four 4 (omega arith))

-- so a word that begins with them stands nowhere
pub ones-nowhere : (high low word count : ℕ) → BeginsWithOnes word count → ((k : ℕ) → k < 64 → ¬ OnesStandAt high low 8 k)
    → AreCandidates high low word count count 0
ones-nowhere high low word count begins nowhere k within = (
  λ yes. let no : digit 0 (63 - k) ≡ false = zero-digit (63 - k) in absurd cc,
  λ meets. absurd (nowhere k within (λ i few. meets i (omega (arith, few, begins.0)) ∙ begins.1 i few)),
)

module _ (high low value count : ℕ) where
  -- before a cell is looked at, each place may do
  pub candidates-all : AreCandidates high low value count 0 (2 ^ 64 - 1)
  candidates-all k within =
      let one : digit (2 ^ 64 - 1) (63 - k) ≡ true = to_digit (2 ^ 64 - 1) (63 - k) (bit_at_ones 64 (63 - k) (omega arith)) in
      (λ _. λ i none. absurd (omega arith), λ _. one)

  -- one more cell is looked at
  pub candidates-more : (offset places cells equal : ℕ) (one : Bool) → offset < count → AreCandidates high low value count offset places → IsJoined high low offset cells
      → one ≡ digit value (count - 1 - offset) → ((k : ℕ) → k < 64 → (digit equal (63 - k) ≡ true) ↔ (digit cells (63 - k) ≡ one))
      → AreCandidates high low value count (offset + 1) (bit_and places equal)
  candidates-more offset places cells equal one more so_far joint wanted told k within = (forth, back)
    where
      order : k + offset ≡ offset + k
      order = omega arith

      here : cell_of_two high low (k + offset) ≡ digit cells (63 - k)
      here = ap (cell_of_two high low) order ∙ sym (joint k within)

      forth : digit (bit_and places equal) (63 - k) ≡ true → MeetsAt high low value count (offset + 1) k
      forth e i below = by_place (cases_lt i offset)
        where
          by_place : (i < offset) ⊎ (offset ≤ i) → cell_of_two high low (k + i) ≡ digit value (count - 1 - i)
          by_place (inl before) = (so_far k within).0 ((digit-and places equal (63 - k)).0 e).0 i before
          by_place (inr last) =
              let same : offset ≡ i = omega arith in
              subst (λ n. cell_of_two high low (k + n) ≡ digit value (count - 1 - n)) same
              (here ∙ (told k within).0 ((digit-and places equal (63 - k)).0 e).1 ∙ wanted)

      back : MeetsAt high low value count (offset + 1) k → digit (bit_and places equal) (63 - k) ≡ true
      back met = (digit-and places equal (63 - k)).1
          ((so_far k within).1 (λ i before. met i (omega arith)), (told k within).1 (sym here ∙ met offset (omega arith) ∙ sym wanted))

  -- where no place is left, no further cell changes that
  pub candidates-none : (met : ℕ) → met ≤ count → AreCandidates high low value count met 0 → AreCandidates high low value count count 0
  candidates-none met some none k within =
      (λ e. let no : false ≡ true = sym (zero-digit (63 - k)) ∙ e in cc, λ all. (none k within).1 (λ i before. all i (omega arith)))

-- the first place of a block that is not empty
pub first-digit : (places : ℕ) → 0 < places → places < 2 ^ 64
    → (count_leading_zeros 64 places < 64) × (digit places (63 - count_leading_zeros 64 places) ≡ true) × ((k : ℕ) → k < count_leading_zeros 64 places → digit places (63 - k) ≡ false)
first-digit places some fits =
    let top = leading_top 64 places some fits in
    let j : ℕ = top.0 in
    let last : count_leading_zeros 64 places + suc top.0 ≡ 64 = top.1 in
    let at : top.0 ≡ 63 - count_leading_zeros 64 places = omega arith in (
      omega arith,
      subst (λ n. digit places n ≡ true) at (to_digit places top.0 (set places top.0 top.2 top.3)),
      λ k before. to_no_digit places (63 - k) (bit_at_above places (suc top.0) (63 - k) top.3 (omega arith)),
    )
  where
    set : (n i : ℕ) → 2 ^ i ≤ n → n < 2 ^ suc i → bit_at n i ≡ 1
    set n i least most =
        let twice : 2 ^ suc i ≡ 2 ^ i * 2 = pow-suc 2 i in
        let rest : n - 2 ^ i < 2 ^ i = omega arith in
        let split : n ≡ 1 * 2 ^ i + (n - 2 ^ i) = omega arith in
        ap (λ x. x % 2) (ap (λ x. x / 2 ^ i) split ∙ shr_high 1 i (n - 2 ^ i) rest)

-- such cells, a digit each: all of them, and fewer
pub left-all : (word count equal : ℕ) (one : Bool) → count ≤ 32
    → ((k : ℕ) → k < 64 → (digit equal (63 - k) ≡ true) ↔ (digit (word * 2 ^ (64 - count) % 2 ^ 64) (63 - k) ≡ one))
    → AreLeftOf word count equal one
left-all word count equal one most told k below is =
    let at : 63 - k - (64 - count) ≡ count - 1 - k = omega (arith, below, most) in
    sym (digit-shl word (64 - count) (63 - k) (omega arith) (omega (arith, below, most)) ∙ ap (digit word) at)
    ∙ (told k (omega (arith, below, most))).0 is

pub left-fewer : (word count left mask : ℕ) (one : Bool) → AreLeftOf word count left one → AreLeftOf word count (bit_and left mask) one
left-fewer word count left mask one all k below is = all k below ((digit-and left mask (63 - k)).0 is).0

-- the first of them
no_zeros_left : count_leading_zeros 64 0 ≡ 64
unfolding count_leading_zeros
no_zeros_left = refl

pub left-first : (word count left : ℕ) (one : Bool) → count ≤ 32 → left < 2 ^ 64 → AreLeftOf word count left one
    → (offset : ℕ) → offset ≡ count_leading_zeros 64 left → offset < count → digit word (count - 1 - offset) ≡ one
left-first word count left one most fits all offset is below =
    elim (cases_lt 0 left) [
      | inl some ↦
          let at = (first-digit left some fits).1 in
          all offset below (ap (λ (n : ℕ). digit left (63 - n)) is ∙ at)
      | inr none ↦
          let zero : left ≡ 0 = omega (arith, none) in
          let past : count_leading_zeros 64 left ≡ 64 = ap (count_leading_zeros 64) zero ∙ no_zeros_left in
          absurd (omega (arith, past, is, below, most))
    ]

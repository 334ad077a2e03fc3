-- Four bytes by the number of their cells: whether each begins with a one, and which they are.
use Rattle.std.proofs.Common.{◌≡◌, ℕ, zero, suc, ◌+◌, ◌-◌, ◌*◌, ◌/◌, ◌%◌, ◌<◌, ◌≤◌, min, Bool, true, false, List, length, drop, get_or, ap, arith, bit_and, refl, subst, sym, [], ◌∷◌, ◌∙◌}
use Rattle.std.specs.Int.{bit_at}
use Rattle.std.proofs.lemmas.Bool.Decides.{nat_tests}
use Rattle.std.proofs.lemmas.List.{get_or-drop, get_or-take}
use Rattle.std.proofs.lemmas.Nat.Bits.{bit_at-lt, bit_at_and}
use Rattle.cell_bits.specs.Word.{digit, word}
use Rattle.cell_bits.specs.lemmas.WordLaws.{get_or-word_cells}
use Rattle.frame_law.specs.lemmas.WordRowLaws.{word-split, word_cells-word}
use Rattle.apple_gcr.specs.DiskBytes.{BeginAt}
use Rattle.apple_nibbles.specs.Nibbles.{disk_byte}

-- the first cells of four bytes, as they are worth in a word
abbrev FIRST_CELLS : ℕ
FIRST_CELLS = 0x80808080

first_ones : (k : ℕ) → k < 4 → bit_at FIRST_CELLS (32 - 1 - 8 * k) ≡ 1
first_ones zero few = refl
first_ones (suc zero) few = refl
first_ones (suc (suc zero)) few = refl
first_ones (suc (suc (suc zero))) few = refl
first_ones (suc (suc (suc (suc k)))) few = absurd (omega arith)

to_digit : (value place : ℕ) → bit_at value place ≡ 1 → digit value place ≡ true
to_digit value place one = grind (arith, nat_tests)

pub four_ones : (cells : List Bool) (from : ℕ) → from + 32 ≤ length cells → bit_and (word cells from 32) FIRST_CELLS ≡ FIRST_CELLS → BeginAt cells from 4
four_ones cells from within same k few =
    let value : ℕ = word cells from 32 in
    let place : ℕ = 32 - 1 - 8 * k in
    let below : 8 * k < 32 = omega (arith, few) in
    let both : bit_at FIRST_CELLS place ≡ min (bit_at value place) (bit_at FIRST_CELLS place) = ap (λ (n : ℕ). bit_at n place) (sym same) ∙ bit_at_and value FIRST_CELLS place in
    let one : bit_at value place ≡ 1 = omega (arith, both, first_ones k few, bit_at-lt value place) in
    sym (get_or-take 32 (drop from cells) (8 * k) false below ∙ get_or-drop from cells (8 * k) false)
    ∙ ap (λ (part : List Bool). get_or part (8 * k) false) (sym (word_cells-word cells from 32 within))
    ∙ get_or-word_cells 32 value (8 * k) below ∙ to_digit value place one

pub four_numbers : (cells : List Bool) (from number : ℕ) → from + 32 ≤ length cells → number ≡ word cells from 32
    → (number / 16777216 ≡ disk_byte cells from) × (number / 65536 % 256 ≡ disk_byte cells (from + 8))
    × (number / 256 % 256 ≡ disk_byte cells (from + 16)) × (number % 256 ≡ disk_byte cells (from + 24))
unfolding disk_byte
four_numbers cells from number within is =
    let last : (word cells from 24 ≡ word cells from 32 / 256) × (word cells (from + 24) 8 ≡ word cells from 32 % 256) = word-split cells from 24 8 within in
    let third : (word cells from 16 ≡ word cells from 24 / 256) × (word cells (from + 16) 8 ≡ word cells from 24 % 256) =
    word-split cells from 16 8 (omega (arith, within)) in
    let first : (word cells from 8 ≡ word cells from 16 / 256) × (word cells (from + 8) 8 ≡ word cells from 16 % 256) =
    word-split cells from 8 8 (omega (arith, within)) in (
      omega (arith, is, last.0, third.0, first.0),
      omega (arith, is, last.0, third.0, first.1),
      omega (arith, is, last.0, third.1),
      omega (arith, is, last.1),
    )

-- what is said of four bytes in a row
pub each_of_four : (P : ℕ → ℕ → Type 0) (from first second third fourth : ℕ) → P first from → P second (from + 8) → P third (from + 16)
    → P fourth (from + 24) → (k : ℕ) → k < 4 → P (get_or (first ∷ second ∷ third ∷ fourth ∷ []) k 0) (from + 8 * k)
each_of_four P from first second third fourth a b c d zero few = subst (P first) (omega arith) a
each_of_four P from first second third fourth a b c d (suc zero) few = subst (P second) (omega arith) b
each_of_four P from first second third fourth a b c d (suc (suc zero)) few = subst (P third) (omega arith) c
each_of_four P from first second third fourth a b c d (suc (suc (suc zero))) few = subst (P fourth) (omega arith) d
each_of_four P from first second third fourth a b c d (suc (suc (suc (suc k)))) few = absurd (omega arith)

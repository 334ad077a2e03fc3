-- The decimal digits of a number: what holds of no byte, and of a text with a digit before it where
-- it holds of the text, holds of them.
use Rattle.std.specs.Prelude.{◌≤◌, ◌<◌, ◌==◌, ℕ, zero, suc, ◌/◌, ◌%◌, Bool, true, false, List, []}
use Rattle.std.specs.Prelude.{◌∷◌, decimal, nat_eq, nat_lt, if◌then◌else◌}
use Rattle.std.specs.Fmt.{digits, digits_onto, digit_glyph}
use Rattle.std.proofs.Common.{arith, lit<}
use Rattle.std.proofs.Math.Nat.{mod-lt}
use Rattle.std.proofs.lemmas.Bool.{lt-ltb}

digit_least : (n : ℕ) → 48 ≤ digit_glyph false (n % 10)
digit_least n =
    let low : n % 10 < 10 = mod-lt n (lit< tt) in
    rw (lt-ltb (n % 10) 10 low) (omega arith)

digit_most : (n : ℕ) → digit_glyph false (n % 10) < 58
digit_most n =
    let low : n % 10 < 10 = mod-lt n (lit< tt) in
    rw (lt-ltb (n % 10) 10 low) (omega (arith, low))

module _ (Holds : List ℕ → Type 0)
    (more : (digit : ℕ) (text : List ℕ) → 48 ≤ digit → digit < 58 → Holds text
    → Holds (digit ∷ text)) where
  either : (b : Bool) (xs ys : List ℕ) → Holds xs → Holds ys → Holds (if b then xs else ys)
  either true xs ys first second = first
  either false xs ys first second = second

  onto : (k n : ℕ) (text : List ℕ) → Holds text → Holds (digits_onto k 10 false n text)
  onto zero n text is = is
  onto (suc k) n text is =
      let glyph : ℕ = digit_glyph false (n % 10) in
      let here : Holds (glyph ∷ text) = more glyph text (digit_least n) (digit_most n) is in
      either (n / 10 == 0) (glyph ∷ text) (digits_onto k 10 false (n / 10) (glyph ∷ text)) here
      (onto k (n / 10) (glyph ∷ text) here)

  pub of_digits : Holds [] → (n : ℕ) → Holds (decimal n)
  unfolding digits
  of_digits none n = onto 64 n [] none

-- How the reading of a block depends on the bytes at hand, step by step.
use Rattle.std.proofs.Common.{◌≡◌, ◌≢◌, ◌⊎◌, ℕ, ◌+◌, ◌<◌, ◌≤◌, ◌++◌, Bool, true, false, List, length, if◌then◌else◌, refl, arith, length-append, Ok, Err, inl, inr}
use Rattle.std.proofs.lemmas.Bool.{cases_lt}
use Rattle.std.proofs.lemmas.Bool.Decides.{nat_tests}
use Rattle.kryo_stream.specs.declared.fault.StreamFault.TheVariants.{Truncated, TooLong}
use Rattle.kryo_stream.specs.Protocol.{LIMIT}
use Rattle.kryo_stream.specs.Pieces.{BlockOrFault, has, needs}
use Rattle.kryo_stream.specs.inside.Pieces.{IsText}

pub has-long : (offset count : ℕ) (y : List ℕ) → LIMIT < offset + count → has offset count y ≡ Err TooLong
has-long offset count y long = grind (arith, nat_tests)

pub has-short : (offset count : ℕ) (y : List ℕ) → offset + count ≤ LIMIT → length y < count → has offset count y ≡ Err Truncated
has-short offset count y within short = grind (arith, nat_tests)

pub has-enough : (offset count : ℕ) (y : List ℕ) → offset + count ≤ LIMIT → count ≤ length y → has offset count y ≡ Ok tt
has-enough offset count y within enough = grind (arith, nat_tests)

-- more bytes change a reading only where the bytes at hand are too few
abbrev pub Grows : BlockOrFault → BlockOrFault → Type 0
Grows reading longer = reading ≢ Err Truncated → longer ≡ reading

pub grows_same : (a b : BlockOrFault) → b ≡ a → Grows a b
grows_same a b same = λ _. same

pub grows_not : (a : BlockOrFault) → Grows a a
grows_not a = λ _. refl

pub grows_if : (test : Bool) (a b a' b' : BlockOrFault) → Grows a a' → Grows b b' → Grows (if test then a else b) (if test then a' else b')
grows_if true a b a' b' first second = first
grows_if false a b a' b' first second = second

pub grows_needs : (offset count : ℕ) (y z : List ℕ) (a b : BlockOrFault) → (count ≤ length y → Grows a b)
    → Grows (needs offset count y a) (needs offset count (y ++ z) b)
grows_needs offset count y z a b grows = elim (cases_lt LIMIT (offset + count)) [
  | inl long ↦ rw (has-long offset count y long, has-long offset count (y ++ z) long) (λ _. refl)
  | inr within ↦ elim (cases_lt (length y) count) [
    | inl short ↦ rw (has-short offset count y within short) (λ not. absurd (not refl))
    | inr enough ↦ rw (
      has-enough offset count y within enough,
      has-enough offset count (y ++ z) within (omega (arith, length-append {A = ℕ}, enough)),
    ) (grows enough)
  ]
]

-- a block takes at least one byte, and lies within the bytes and the limit; the bytes are too few only where they are
-- fewer than 16 or the block is a text
abbrev pub Lies : ℕ → List ℕ → BlockOrFault → Type 0
Lies offset y (Ok p) = (1 ≤ p.bytes) × (p.bytes ≤ length y) × (offset + p.bytes ≤ LIMIT)
Lies offset y (Err fault) = fault ≡ Truncated → (length y < 16) ⊎ ((size : ℕ) × IsText offset y size)

pub lies_if : (offset : ℕ) (y : List ℕ) (test : Bool) (a b : BlockOrFault)
    → (test ≡ true → Lies offset y a) → (test ≡ false → Lies offset y b) → Lies offset y (if test then a else b)
lies_if offset y true a b first second = first refl
lies_if offset y false a b first second = second refl

pub lies_needs : (offset count : ℕ) (y : List ℕ) (a : BlockOrFault) → count ≤ 16
    → (count ≤ length y → offset + count ≤ LIMIT → Lies offset y a) → Lies offset y (needs offset count y a)
lies_needs offset count y a few lies = elim (cases_lt LIMIT (offset + count)) [
  | inl long ↦ rw (has-long offset count y long) (λ same. cc)
  | inr within ↦ elim (cases_lt (length y) count) [
    | inl short ↦ rw (has-short offset count y within short) (λ _. inl (omega (arith, short, few)))
    | inr enough ↦ rw (has-enough offset count y within enough) (lies enough within)
  ]
]

-- the same of a text
pub lies_text : (offset count : ℕ) (y : List ℕ) (a : BlockOrFault) → (offset + count ≤ LIMIT → (size : ℕ) × IsText offset y size)
    → (count ≤ length y → offset + count ≤ LIMIT → Lies offset y a) → Lies offset y (needs offset count y a)
lies_text offset count y a text lies = elim (cases_lt LIMIT (offset + count)) [
  | inl long ↦ rw (has-long offset count y long) (λ same. cc)
  | inr within ↦ elim (cases_lt (length y) count) [
    | inl short ↦ rw (has-short offset count y within short) (λ _. inr (text within))
    | inr enough ↦ rw (has-enough offset count y within enough) (lies enough within)
  ]
]

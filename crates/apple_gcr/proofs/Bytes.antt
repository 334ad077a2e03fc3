-- Bytes that are taken from values, one after another.
use Rattle.std.proofs.Common.{◌≡◌, ℕ, ◌+◌, ◌-◌, ◌*◌, ◌/◌, ◌%◌, ◌<◌, ◌≤◌, List, length, get_or, set, ap, sym, subst, ◌∙◌, arith, inl, inr}
use Rattle.std.proofs.lemmas.Bool.{cases_lt}
use Rattle.std.proofs.lemmas.Bool.Decides.{nat_tests}
use Rattle.std.proofs.lemmas.List.{get_or-set_same, get_or-set_other, length-set}
use Rattle.apple_gcr.specs.SixAndTwo.{Carries, low_pair, swapped}

-- a byte of these values
abbrev IsTaken : List ℕ → ℕ → ℕ → Type 0
IsTaken values k byte = (byte / 4 ≡ get_or values (86 + k) 0) × (swapped byte ≡ low_pair values k)

-- the first bytes, so many, of all that a sector has
pub record AreTaken (values bytes : List ℕ) (count : ℕ) : Type 0 where
  pub size : length bytes ≡ 256
  pub each : (k : ℕ) → k < count → IsTaken values k (get_or bytes k 0)

pub none-taken : (values bytes : List ℕ) → length bytes ≡ 256 → AreTaken values bytes 0
none-taken values bytes size = record { size = size; each = λ k none. absurd (omega (arith, none)) }

pub more-taken : (values bytes : List ℕ) (count high low byte : ℕ) → AreTaken values bytes count → count < 256
    → high ≡ get_or values (86 + count) 0 → low % 4 ≡ low_pair values count → byte ≡ 4 * high + swapped low
    → AreTaken values (set bytes count byte) (count + 1)
more-taken values bytes count high low byte taken within is_high is_low is = record {
  size = length-set bytes count byte ∙ taken.size;
  each = λ k early. elim (cases_lt k count) [
    | inl before ↦
        let same : get_or (set bytes count byte) k 0 ≡ get_or bytes k 0 =
        get_or-set_other bytes count k byte 0 (λ same. omega (arith, before, same)) in
        subst (IsTaken values k) (sym same) (taken.each k before)
    | inr here ↦
        let e : count ≡ k = omega (arith, early, here) in
        let at : get_or (set bytes count byte) count 0 ≡ byte =
        get_or-set_same bytes count byte 0 (omega (arith, within, taken.size)) in
        let top : byte / 4 ≡ high = omega (arith, is) in
        let bottom : swapped byte ≡ low % 4 = omega (arith, is) in
        subst (λ (n : ℕ). IsTaken values n (get_or (set bytes count byte) n 0)) e
        (subst (IsTaken values count) (sym at) (top ∙ is_high, bottom ∙ is_low))
  ];
}

pub low_pair-first : (values : List ℕ) (k : ℕ) → k < 86 → low_pair values k ≡ get_or values k 0 % 4
low_pair-first values k low = grind (arith, nat_tests)

pub low_pair-second : (values : List ℕ) (k : ℕ) → 86 ≤ k → k < 172 → low_pair values k ≡ get_or values (k - 86) 0 / 4 % 4
low_pair-second values k past low = grind (arith, nat_tests)

pub low_pair-third : (values : List ℕ) (k : ℕ) → 172 ≤ k → low_pair values k ≡ get_or values (k - 172) 0 / 16 % 4
low_pair-third values k past = grind (arith, nat_tests)

-- all of them
pub all-taken : (values bytes : List ℕ) (count : ℕ) → count ≡ 256 → AreTaken values bytes count → Carries values bytes
all-taken values bytes count all taken = record {
  size = taken.size;
  high = λ k within. (taken.each k (omega arith)).0;
  first = λ k within. (taken.each k (omega arith)).1 ∙ low_pair-first values k within;
  second = λ k within.
      let here : 86 + k - 86 ≡ k = omega arith in
      (taken.each (86 + k) (omega arith)).1 ∙ low_pair-second values (86 + k) (omega arith) (omega arith)
      ∙ ap (λ (n : ℕ). get_or values n 0 / 4 % 4) here;
  third = λ k within.
      let here : 172 + k - 172 ≡ k = omega arith in
      (taken.each (172 + k) (omega arith)).1 ∙ low_pair-third values (172 + k) (omega arith)
      ∙ ap (λ (n : ℕ). get_or values n 0 / 16 % 4) here;
}

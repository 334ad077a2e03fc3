-- Quotients by reciprocals and by comparisons.
use Rattle.std.proofs.Common.{◌≡◌, ℕ, List, get_or, ◌+◌, ◌-◌, ◌*◌, ◌/◌, ◌^◌, ◌<◌, ◌≤◌, max, arith, refl, sym, ◌∙◌, ap, inl, inr, Bool, true, false, nat_le}
use Rattle.std.proofs.lemmas.Bool.{cases_lt, lt-leb, le-leb}
use Rattle.std.proofs.lemmas.List.{get_or_default}
use Rattle.phase_loop.specs.Reciprocals.{AreReciprocals}
use Rattle.phase_loop.specs.inside.Window.{WIDEST}
use Rattle.std.proofs.Math.Nat.{div-eq_of_lt-le, lt-div-mul-add, div-mul-le_self, mul-le-mul_left, div-lt_iff_lt-mul}

-- a total times the reciprocal of a count, over 2^40, is the quotient
pub quotient_by_reciprocal : (total count : ℕ) → total ≤ 64 * WIDEST → 64 ≤ count → count ≤ 2048
    → total * (2 ^ 40 / count + 1) / 2 ^ 40 ≡ total / count
quotient_by_reciprocal total count small least largest =
    let a : ℕ = 1099511627776 / count in
    let q : ℕ = total / count in
    let some : 0 < count = omega arith in
    let a_high : 1099511627776 < a * count + count = lt-div-mul-add some in
    let a_low : a * count ≤ 1099511627776 = div-mul-le_self 1099511627776 count in
    let q_high : total < q * count + count = lt-div-mul-add some in
    let q_low : q * count ≤ total = div-mul-le_self total count in
    let widest : (a + 1) * count ≤ (a + 1) * 2048 = mul-le-mul_left (a + 1) largest in
    let lower : q * 1099511627776 ≤ total * (a + 1) =
    let one : q * 1099511627776 ≤ q * (a * count + count) = mul-le-mul_left q (omega arith) in
    let two : (a + 1) * (q * count) ≤ (a + 1) * total = mul-le-mul_left (a + 1) q_low in
    omega (arith, one, two) in
    let upper : total * (a + 1) < (q + 1) * 1099511627776 =
    let one : (a + 1) * (total + 1) ≤ (a + 1) * (q * count + count) = mul-le-mul_left (a + 1) (omega arith) in
    let two : (q + 1) * (a * count + count) ≤ (q + 1) * (1099511627776 + count) = mul-le-mul_left (q + 1) (omega arith) in
    omega (arith, one, two, widest, a_high, q_low, small, largest) in
    div-eq_of_lt-le 1099511627776 lower upper

-- the same for ticks, over 2^30
pub ticks_by_reciprocal : (ticks count : ℕ) → 1024 * ticks ≤ 64 * WIDEST → 64 ≤ count → count ≤ 2048
    → ticks * (2 ^ 40 / count + 1) / 2 ^ 30 ≡ 1024 * ticks / count
ticks_by_reciprocal ticks count small least largest =
    let product : ℕ = ticks * (1099511627776 / count + 1) in
    let whole : 1024 * ticks * (1099511627776 / count + 1) / 1099511627776 ≡ 1024 * ticks / count =
    quotient_by_reciprocal (1024 * ticks) count small least largest in
    let same : 1024 * ticks * (1099511627776 / count + 1) ≡ 1024 * product = omega arith in
    let shorter : product / 1073741824 ≡ 1024 * product / 1099511627776 = omega arith in
    shorter ∙ ap (λ (n : ℕ). n / 1099511627776) (sym same) ∙ whole

-- what stands in the table for a count
pub reciprocal_at : (table : List ℕ) (other count : ℕ) {read : ℕ} → AreReciprocals table → 64 ≤ count → count ≤ 2048
    → read ≡ get_or table (count - 1) other → read ≡ 2 ^ 40 / count + 1
reciprocal_at table other count exact least largest at =
    let place : ℕ = count - 1 in
    let next : place + 1 ≡ count = omega (arith, least) in
    at ∙ get_or_default table place other 0 (omega (arith, exact.0, least, largest)) ∙ exact.1 place (omega (arith, least, largest))
    ∙ ap (λ (n : ℕ). 1099511627776 / n + 1) next

-- what a comparison counts for
abbrev pub one_if : Bool → ℕ
one_if false = 0
one_if true = 1

quotient_is : (way period k : ℕ) → k * (2 * period) ≤ 2 * way + period → 2 * way + period < (k + 1) * (2 * period)
    → (2 * way + period) / (2 * period) ≡ k
quotient_is way period k low high = div-eq_of_lt-le (2 * period) low high

-- up to four periods, comparisons give the nearest number of them
pub periods_by_comparisons : (way period : ℕ) → 1 ≤ period → 2 * way < 9 * period
    → 1 + one_if (nat_le (3 * period) (2 * way)) + one_if (nat_le (5 * period) (2 * way)) + one_if (nat_le (7 * period) (2 * way))
    ≡ max 1 ((2 * way + period) / (2 * period))
periods_by_comparisons way period some below =
    elim (cases_lt (2 * way) (3 * period)) [
      | inl under_three ↦
          let small : (2 * way + period) / (2 * period) < 2 = (div-lt_iff_lt-mul {k = 2 * period} {x = 2 * way + period} {y = 2} (omega arith)).1 (omega arith) in
          rw (lt-leb (3 * period) (2 * way) under_three, lt-leb (5 * period) (2 * way) (omega arith), lt-leb (7 * period) (2 * way) (omega arith)) (omega arith)
      | inr three ↦ elim (cases_lt (2 * way) (5 * period)) [
        | inl under_five ↦
            rw (le-leb (3 * period) (2 * way) three, lt-leb (5 * period) (2 * way) under_five, lt-leb (7 * period) (2 * way) (omega arith), quotient_is way period 2 (omega arith) (omega arith)) refl
        | inr five ↦ elim (cases_lt (2 * way) (7 * period)) [
          | inl under_seven ↦
              rw (le-leb (3 * period) (2 * way) three, le-leb (5 * period) (2 * way) five, lt-leb (7 * period) (2 * way) under_seven, quotient_is way period 3 (omega arith) (omega arith)) refl
          | inr seven ↦
              rw (le-leb (3 * period) (2 * way) three, le-leb (5 * period) (2 * way) five, le-leb (7 * period) (2 * way) seven, quotient_is way period 4 (omega arith) (omega arith)) refl
        ]
      ]
    ]

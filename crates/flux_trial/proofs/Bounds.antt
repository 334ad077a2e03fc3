-- The periods, the ideal places and the times of a drive keep within bounds.
use Rattle.std.proofs.Common.{◌≡◌, ◌≤◌, ◌<◌, ◌+◌, ◌-◌, ◌*◌, ◌/◌, ◌%◌, ◌&&◌, ℕ, zero, suc, Bool, true, false, cond, List, refl, ap, ◌∙◌, arith, inl, inr}
use Rattle.std.specs.Int.{abs_diff}
use Rattle.std.specs.Prelude.{nat_le, slice_index}
use Rattle.std.proofs.lemmas.Bool.{cases_lt}
use Rattle.std.proofs.Math.Nat.{div-mul-le_self, le-div_iff_mul-le, mod-lt, mul-le-mul_right}
use Rattle.phase_loop.specs.Carried.{AreClose, DISPLACEMENT, DRIFT, OFF_SPEED}
use Rattle.phase_loop.specs.Start.{FINE_PER_TICK}
use Rattle.flux_trial.specs.Drive.{Drive, base, chance, ideal, most_drift, most_way, period, time_of}
use Rattle.flux_trial.proofs.Sound.{IsUsual, kept}

-- how near the first local period is to the nominal cell
base-near : (d : Drive) → (15 * d.nominal ≤ 16 * base d) × (16 * base d ≤ 17 * d.nominal)
base-near d =
    let step : ℕ = d.nominal / 128 in
    let speed : ℕ = (d.seed + d.track) % 17 in
    let slow : speed < 17 = mod-lt (d.seed + d.track) {m = 17} (omega arith) in
    let most : speed * step ≤ 16 * step = mul-le-mul_right step (omega (arith, slow)) in
    (omega arith, omega (arith, most))

pub period-first : (d : Drive) → period d 0 ≡ base d
unfolding period
period-first d = refl

-- no local period comes farther from the first than the most
period-kept : (d : Drive) (j : ℕ) → (base d - most_drift d ≤ period d j) × (period d j ≤ base d + most_drift d)
unfolding period
period-kept d zero =
    let low : base d - most_drift d ≤ base d = omega arith in
    let high : base d ≤ base d + most_drift d = omega arith in
    (low, high)
period-kept d (suc j) =
    let before = period-kept d j in
    let next : ℕ = period d j + chance d (suc j) / 1048576 % 3 - 1 in
    kept (nat_le (base d - most_drift d) next) (nat_le next (base d + most_drift d)) next (period d j) (base d - most_drift d) (base d + most_drift d)
    refl refl before.0 before.1

one_off : (a b : Bool) (period turn : ℕ) → turn < 3
    → (cond (a && b) (period + turn - 1) period ≤ period + 1) × (period ≤ cond (a && b) (period + turn - 1) period + 1)
one_off true true period turn few = (omega (arith, few), omega (arith, few))
one_off true false period turn few = (omega arith, omega arith)
one_off false b period turn few = (omega arith, omega arith)

period-next-near : (d : Drive) (j : ℕ) → (period d (suc j) ≤ period d j + 1) × (period d j ≤ period d (suc j) + 1)
unfolding period
period-next-near d j =
    let next : ℕ = period d j + chance d (suc j) / 1048576 % 3 - 1 in
    one_off (nat_le (base d - most_drift d) next) (nat_le next (base d + most_drift d)) (period d j) (chance d (suc j) / 1048576 % 3)
    (mod-lt (chance d (suc j) / 1048576) {m = 3} (omega arith))

speed-near : (nominal base period : ℕ) → 16384 ≤ nominal → 15 * nominal ≤ 16 * base → 16 * base ≤ 17 * nominal
    → base - nominal / 256 ≤ period → period ≤ base + nominal / 256 → 8 * abs_diff period nominal ≤ nominal
speed-near nominal base period least low high slow fast = omega (arith, least, low, high, slow, fast)

drift-near : (nominal a b : ℕ) → 16384 ≤ nominal → a ≤ b + 1 → b ≤ a + 1 → 16384 * abs_diff a b ≤ nominal
drift-near nominal a b least one two = omega (arith, least, one, two)

pub near_speed : (d : Drive) (j : ℕ) → IsUsual d → AreClose OFF_SPEED d.nominal (period d j) d.nominal
near_speed d j usual =
    let first = base-near d in
    let near = period-kept d j in
    speed-near d.nominal (base d) (period d j) usual.least first.0 first.1 near.0 near.1

pub steady : (d : Drive) (j : ℕ) → IsUsual d → AreClose DRIFT d.nominal (period d (suc j)) (period d j)
steady d j usual =
    let near = period-next-near d j in
    drift-near d.nominal (period d (suc j)) (period d j) usual.least near.0 near.1

-- no ideal place is before the end of one cell
ideal-late : (d : Drive) (ones : List ℕ) (j : ℕ) → base d ≤ ideal d ones j
unfolding ideal
ideal-late d ones zero =
    let one : 1 * base d ≤ (slice_index ones 0 + 1) * base d = mul-le-mul_right (base d) (omega arith) in
    let all : base d ≤ (slice_index ones 0 + 1) * base d = omega (arith, one) in
    all
ideal-late d ones (suc j) =
    let before = ideal-late d ones j in
    let all : base d ≤ ideal d ones j + (slice_index ones (suc j) - slice_index ones j) * period d j = omega (arith, before) in
    all

displaced-near : (nominal ideal way : ℕ) → 16384 ≤ nominal → nominal / 8 - 1024 ≤ ideal → way < 2 * (nominal / 8 - 1024) + 1
    → 8 * abs_diff (1024 * ((ideal + way - (nominal / 8 - 1024)) / 1024) + nominal) (ideal + nominal) ≤ nominal
displaced-near nominal ideal way least late few = omega (arith, least, late, few)

pub near_place : (d : Drive) (ones : List ℕ) (j : ℕ) → IsUsual d
    → AreClose DISPLACEMENT d.nominal (FINE_PER_TICK * time_of d ones j + d.nominal) (ideal d ones j + d.nominal)
near_place d ones j usual =
    let first = base-near d in
    let late = ideal-late d ones j in
    displaced-near d.nominal (ideal d ones j) (chance d (suc j) / 16 % (2 * most_way d + 1)) usual.least (omega (arith, first.0, late))
    (mod-lt (chance d (suc j) / 16) {m = 2 * most_way d + 1} (omega arith))

-- a length in ticks is at most a tick from what it stands for
ticks-near : (a b p q : ℕ) → a + p ≤ b → b ≤ a + q → (p ≤ 1024 * (b / 1024 - a / 1024) + 1023) × (1024 * (b / 1024 - a / 1024) ≤ q + 1023)
ticks-near a b p q low high = (omega (arith, low, high), omega (arith, low, high))

-- the mean of so many cells that are all between a low and a high
module _ (cells low high fine : ℕ) (many : 1024 ≤ cells) (some : 1 ≤ low) (least : cells * low ≤ fine + 1023) (most : fine ≤ cells * high + 1023) where
  one_less : (low - 1) * cells + cells ≡ cells * low
  one_less =
      let less : ℕ = low - 1 in
      let more : less + 1 ≡ low = omega (arith, some) in
      let all : less * cells + cells ≡ cells * (less + 1) = grind arith in
      all ∙ ap (λ (m : ℕ). cells * m) more

  mean-low : low - 1 ≤ fine / cells
  mean-low = (le-div_iff_mul-le {k = cells} {x = low - 1} {y = fine} (omega (arith, many))).1 (omega (arith, one_less, least, many))

  mean-high : fine / cells ≤ high + 1
  mean-high =
      let mean : ℕ = fine / cells in
      let below : mean * cells ≤ fine = div-mul-le_self fine cells in
      elim (cases_lt (high + 1) mean) [
        | inl more ↦ (let all : (high + 2) * cells ≤ mean * cells = mul-le-mul_right cells (omega (arith, more)) in
            let parts : (high + 2) * cells ≡ cells * high + 2 * cells = grind arith in
            absurd (omega (arith, all, parts, below, most, many)))
        | inr less ↦ less
      ]

start-near : (nominal base mean : ℕ) → 16384 ≤ nominal → 15 * nominal ≤ 16 * base → base - nominal / 256 - 1 ≤ mean → mean ≤ base + nominal / 256 + 1
    → 64 * abs_diff mean base ≤ nominal
start-near nominal base mean least low slow fast = omega (arith, least, low, slow, fast)

-- the mean cell of a turn from one place to another is near the first local period
pub mean-near : (d : Drive) (cells a b : ℕ) → IsUsual d → 1024 ≤ cells → a + cells * (base d - most_drift d) ≤ b → b ≤ a + cells * (base d + most_drift d)
    → 64 * abs_diff (1024 * (b / 1024 - a / 1024) / cells) (base d) ≤ d.nominal
mean-near d cells a b usual many slow fast =
    let first = base-near d in
    let fine : ℕ = 1024 * (b / 1024 - a / 1024) in
    let ticks = ticks-near a b (cells * (base d - most_drift d)) (cells * (base d + most_drift d)) slow fast in
    start-near d.nominal (base d) (fine / cells) usual.least first.0
    (mean-low cells (base d - most_drift d) (base d + most_drift d) fine many (omega (arith, first.0, usual.least)) ticks.0 ticks.1)
    (mean-high cells (base d - most_drift d) (base d + most_drift d) fine many (omega (arith, first.0, usual.least)) ticks.0 ticks.1)

-- Turns whose mean cell is a given one, and the streams that have them.
use Rattle.std.specs.Prelude.{◌≡◌, ◌<◌, ◌≤◌, ℕ, ◌+◌, ◌-◌, ◌*◌, ◌/◌, pos, ◌-ℤ◌, nat_abs, Bool, List, [], ◌∷◌, length, slice_index}
use Rattle.std.proofs.Common.{arith, ap, ◌∙◌, inl, inr}
use Rattle.std.proofs.lemmas.Bool.{cases_lt}
use Rattle.std.proofs.lemmas.Int.{ints}
use Rattle.std.proofs.Math.Nat.{le-div_iff_mul-le, mul-le-mul_right}
use Rattle.kryo_stream.specs.Sequence.{IsStreamOf}
use Rattle.kryo_stream.specs.Stream.{indexes}
use Rattle.law_stated_captures.specs.Reached.{IsTurned}
use Rattle.law_stated_captures.specs.Reaching.{IsSpeed}
use Rattle.law_stated_captures.specs.Streams.{StartsAt, first_mean}
use Rattle.law_stated_captures.proofs.Blocks.{BlocksLaw, Steps, spells}
use Rattle.law_stated_captures.proofs.Driven.{Bounded}

-- the ticks of a turn whose mean cell is this one
pub turn_of : (cells mean : ℕ) → ℕ
turn_of cells mean = (mean * cells + 1023) / 1024

mean_of_turn : (cells mean : ℕ) → 1024 ≤ cells → 1024 * turn_of cells mean / cells ≡ mean
unfolding turn_of
mean_of_turn cells mean many =
    let product : ℕ = mean * cells in
    let fine : ℕ = 1024 * ((product + 1023) / 1024) in
    let low : product ≤ fine = omega arith in
    let high : fine < product + 1024 = omega arith in
    let least : mean ≤ fine / cells = (le-div_iff_mul-le {k = cells} {x = mean} {y = fine} (omega (arith, many))).1 low in
    let most : fine / cells < mean + 1 = below fine cells mean many high in
    omega (arith, least, most)
  where
    below : (fine cells mean : ℕ) → 1024 ≤ cells → fine < mean * cells + 1024 → fine / cells < mean + 1
    below fine cells mean many high =
        elim (cases_lt (fine / cells) (mean + 1)) [
          | inl less ↦ less
          | inr more ↦ (let all : (mean + 1) * cells ≤ fine = (le-div_iff_mul-le {k = cells} {x = mean + 1} {y = fine} (omega (arith, many))).0 more in
              let parts : (mean + 1) * cells ≡ mean * cells + cells = omega arith in
              absurd (omega (arith, all, parts, high, many)))
        ]

turn_bounds : (cells mean : ℕ) → 1024 ≤ cells → cells ≤ 524288 → 1 ≤ mean → mean ≤ 149504 → (0 < turn_of cells mean) × (turn_of cells mean < 100000000)
unfolding turn_of
turn_bounds cells mean many few some short =
    let least : 1 * cells ≤ mean * cells = mul-le-mul_right cells some in
    let most : mean * cells ≤ 149504 * cells = mul-le-mul_right cells short in
    (omega (arith, least, many), omega (arith, most, few))

module _ (law : BlocksLaw) (ring : List Bool) (nominal : ℕ) (speed : ℕ → ℕ) (mean index : ℕ) (turned : IsTurned ring nominal) (is : IsSpeed nominal speed mean) (early : index < 2147483648) where
  pub bounded : (begin : ℕ) → 32 ≤ begin → Bounded nominal speed begin
  bounded begin begun = record {
    shortest = turned.shortest_cell;
    longest = turned.longest_cell;
    fastest = is.fastest;
    slowest = is.slowest;
    drift = is.drift;
    begun = begun;
  }

  abbrev pub turn : ℕ
  turn = turn_of (length ring) mean

  mean_bounds : (1 ≤ mean) × (mean ≤ 149504)
  mean_bounds =
      let near = is.near in
      let fast = is.fastest 0 in
      let slow = is.slowest 0 in
      let short = turned.shortest_cell in
      let long = turned.longest_cell in
      (means_from nominal (speed 0) mean short long fast slow near)
    where
      means_from : (nominal period mean : ℕ) → 16384 ≤ nominal → nominal ≤ 131072 → 7 * nominal ≤ 8 * period → 8 * period ≤ 9 * nominal
          → 64 * nat_abs (pos mean -ℤ pos period) ≤ nominal → (1 ≤ mean) × (mean ≤ 149504)
      means_from nominal period mean short long fast slow near = (omega (arith, ints), omega (arith, ints))

  turns : (0 < turn) × (turn < 100000000)
  turns = turn_bounds (length ring) mean turned.shortest_ring turned.longest_ring mean_bounds.0 mean_bounds.1

  pub stream_of : (ts : List ℕ) → 0 < length ts → Steps 0 ts → length ts ≤ 1300000 → (x : List ℕ) × IsStreamOf x ts (index ∷ (index + turn) ∷ []) × (slice_index x 0 ≡ 13)
  stream_of ts some steps few =
      let t = turns in
      spells law ts index (index + turn) some steps few (omega (arith, t)) (omega (arith, t, early))

  module _ (x ts : List ℕ) (stream : IsStreamOf x ts (index ∷ (index + turn) ∷ [])) where
    pub mean_is : first_mean (indexes x) (length ring) ≡ mean
    mean_is =
        let way : index + turn - index ≡ turn = omega arith in
        ap (λ (xs : List ℕ). first_mean xs (length ring)) stream.turns_are
        ∙ ap (λ (t : ℕ). 1024 * t / length ring) way ∙ mean_of_turn (length ring) mean turned.shortest_ring

    pub index_is : slice_index (indexes x) 0 ≡ index
    index_is = ap (λ (xs : List ℕ). slice_index xs 0) stream.turns_are

    pub starts_at : (periods : List ℕ) → slice_index periods 0 ≡ speed 0 → StartsAt (first_mean (indexes x) (length ring)) nominal periods
    starts_at periods first = rw (mean_is, first) is.near

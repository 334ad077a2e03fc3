-- The stream of a track leaves room for a text in front of it.
use Rattle.std.proofs.Common.{◌≡◌, ◌≤◌, ◌<◌, ◌+◌, ◌-◌, ◌*◌, ◌/◌, ℕ, zero, suc, Bool, List, [], ◌∷◌, All, length, map, ap, arith}
use Rattle.std.specs.List.Sorted.{IsNonDecreasing, IsStrictlyIncreasing}
use Rattle.std.proofs.lemmas.List.{length-map}
use Rattle.std.proofs.lemmas.List.Elements.{All-nil, All-cons, All-head}
use Rattle.std.proofs.Math.Nat.{mul-le-mul, mul-le-mul_right}
use Rattle.kryo_stream.specs.Protocol.{OVERFLOW_TICKS}
use Rattle.track_rings.specs.Rings.{last_in}
use Rattle.flux_writer.specs.Reading.{HasEarlyOne}
use Rattle.flux_writer.specs.Written.{cell_time, stream_of, stream_of_times, track_cells, track_turns}
use Rattle.flux_writer.specs.lemmas.FoundOnes.{Rises, ones_few, ones_from, ones_of-is, ones_rise, ones_within}
use Rattle.flux_writer.specs.lemmas.TrackParts.{length-track_cells}

-- what is said of the size of a written stream
abbrev pub TakesFew : Type 0
TakesFew = (transitions turns : List ℕ) → IsNonDecreasing transitions → IsStrictlyIncreasing turns
    → length (stream_of_times transitions turns) ≤ 3 * length transitions + last_in transitions / OVERFLOW_TICKS + 16 * length turns + 16

map-All : (f : ℕ → ℕ) (P Q : ℕ → Type 0) → ((x : ℕ) → P x → Q (f x)) → (xs : List ℕ) → All P xs → All Q (map f xs)
map-All f P Q step [] all = All-nil Q
map-All f P Q step (x ∷ xs) all = All-cons Q (f x) (map f xs) (step x (All-head P x xs all)) (map-All f P Q step xs (λ k d below. all (suc k) d (omega arith)))

last_low : (xs : List ℕ) (bound : ℕ) → All (λ x. x ≤ bound) xs → last_in xs ≤ bound
last_low [] bound all = omega arith
last_low (x ∷ xs) bound all = all (length (x ∷ xs) - 1) 0 (omega arith)

module _ (nominal : ℕ) where
  time-le : (j k : ℕ) → j ≤ k → cell_time nominal j ≤ cell_time nominal k
  time-le j k order =
      let product : (j + 1) * nominal ≤ (k + 1) * nominal = mul-le-mul_right nominal (omega arith) in
      omega (arith, product)

  time-lt : (j k : ℕ) → 1024 ≤ nominal → j < k → cell_time nominal j < cell_time nominal k
  time-lt j k long order =
      let product : (j + 1 + 1) * nominal ≤ (k + 1) * nominal = mul-le-mul_right nominal (omega arith) in
      let one : (j + 1 + 1) * nominal ≡ (j + 1) * nominal + nominal = grind arith in
      omega (arith, product, one, long)

  in_order : (xs : List ℕ) → Rises xs → IsNonDecreasing (map (cell_time nominal) xs)
  in_order [] rises i j d before inside = absurd (omega arith)
  in_order (x ∷ xs) rises zero zero d before inside = omega arith
  in_order (x ∷ xs) rises zero (suc j) d before inside =
      map-All (cell_time nominal) (λ y. x < y) (λ t. cell_time nominal x ≤ t) (λ y later. time-le x y (omega (arith, later))) xs rises.0 j d (omega arith)
  in_order (x ∷ xs) rises (suc i) zero d before inside = absurd (omega arith)
  in_order (x ∷ xs) rises (suc i) (suc j) d before inside = in_order xs rises.1 i j d (omega arith) (omega arith)

  module _ (cells : List Bool) where
    abbrev ones : List ℕ
    ones = ones_from 0 cells

    abbrev transitions : List ℕ
    transitions = map (cell_time nominal) ones

    are-in-order : IsNonDecreasing transitions
    are-in-order = in_order ones (ones_rise 0 cells)

    last_within : last_in transitions ≤ cell_time nominal (length cells)
    last_within =
        last_low transitions (cell_time nominal (length cells))
        (map-All (cell_time nominal) (λ k. (0 ≤ k) × (k < 0 + length cells)) (λ t. t ≤ cell_time nominal (length cells))
        (λ k in_range. time-le k (length cells) (omega (arith, in_range.1))) ones (ones_within 0 cells))

  module _ (ring : List Bool) (long : 1024 ≤ nominal) (early : HasEarlyOne ring) where
    turns_rise : IsStrictlyIncreasing (map (cell_time nominal) (track_turns ring))
    turns_rise zero within = time-lt _ _ long (omega (arith, early.1, early.2))
    turns_rise (suc zero) within = time-lt _ _ long (omega (arith, early.1, early.2))
    turns_rise (suc (suc zero)) within = time-lt _ _ long (omega (arith, early.1, early.2))
    turns_rise (suc (suc (suc k))) within = absurd (omega arith)

    -- three bytes a cell, and one for each 65536 ticks
    pub leaves_room : TakesFew → nominal ≤ 131072 → length ring ≤ 262144 → length (stream_of ring nominal) ≤ 4000000
    leaves_room takes short few =
        let cells = track_cells ring in
        let same : stream_of ring nominal ≡ stream_of_times (transitions cells) (map (cell_time nominal) (track_turns ring)) =
        ap (λ (os : List ℕ). stream_of_times (map (cell_time nominal) os) (map (cell_time nominal) (track_turns ring))) (ones_of-is cells) in
        let size = takes (transitions cells) (map (cell_time nominal) (track_turns ring)) (are-in-order cells) turns_rise in
        let count : length (transitions cells) ≤ length cells = omega (arith, length-map (ones cells) (cell_time nominal), ones_few 0 cells) in
        let most : length cells + 1 ≤ 917505 = omega (arith, few, length-track_cells ring) in
        let product : (length cells + 1) * nominal ≤ 917505 * 131072 = mul-le-mul most short in
        omega (arith, size, ap length same, count, last_within cells, product, most)

-- How many bytes a written stream has.
use Rattle.std.proofs.Common.{◌≡◌, ◌≤◌, ◌+◌, ◌-◌, ◌*◌, ◌/◌, ◌++◌, ℕ, List, [], ◌∷◌, length, map, ap, sym, refl, arith, length-append}
use Rattle.std.specs.List.Sorted.{IsNonDecreasing, IsStrictlyIncreasing}
use Rattle.kryo_stream.specs.Spelling.{spelling}
use Rattle.kryo_stream.specs.Sequence.{spellings}
use Rattle.track_rings.specs.Rings.{last_in}
use Rattle.flux_writer.specs.Written.{index_block, interval_blocks, stream_of_times}
use Rattle.flux_writer.specs.inside.Writing.{indexes_before, indexes_from, last_blocks, many_blocks, next_position, position_after, time_after}
use Rattle.flux_writer.proofs.Steps.{spellings-append, length-interval, length-interval_close}
use Rattle.flux_writer.proofs.Rising.{before-from}
use Rattle.flux_writer.proofs.Equal.{stream_blocks-is}
use Rattle.flux_writer.proofs.Stands.{InOrder, InOrder-from_sorted}
use Rattle.flux_writer.proofs.ReadsBack.{last-is, from_zero}

indexes_take : (position begin : ℕ) (xs : List ℕ) → length (spellings (map (index_block position begin) xs)) ≡ 16 * length xs
indexes_take position begin [] = refl
indexes_take position begin (x ∷ xs) =
    omega (
      arith,
      length-append (spelling (index_block position begin x)) (spellings (map (index_block position begin) xs)),
      indexes_take position begin xs,
    )

-- where an interval takes so many bytes and what its length costs, and the cost of a sum is at least the sum of the costs
module _ (each : ℕ) (cost : ℕ → ℕ) (adds : (a b : ℕ) → cost a + cost b ≤ cost (a + b))
    (takes : (ticks : ℕ) → length (spellings (interval_blocks ticks)) ≤ cost ticks + each) where
  many_take : (position begin : ℕ) (ts xs : List ℕ) → InOrder begin ts
      → length (spellings (many_blocks position begin ts xs)) + cost begin ≤ each * length ts + cost (time_after begin ts) + 16 * length xs
  many_take position begin [] xs order = omega arith
  many_take position begin (t ∷ ts) xs order =
      let front = map (index_block position begin) (indexes_before t xs) in
      let interval = interval_blocks (t - begin) in
      let rest = many_blocks (next_position position begin t) t ts (indexes_from t xs) in
      let sum : begin + (t - begin) ≡ t = omega (arith, order.0) in
      let product : each * length (t ∷ ts) ≡ each + each * length ts = grind arith in
      omega (
        arith,
        adds begin (t - begin),
        ap cost sum,
        product,
        many_take (next_position position begin t) t ts (indexes_from t xs) order.1,
        ap length (spellings-append (front ++ interval) rest),
        length-append (spellings (front ++ interval)) (spellings rest),
        ap length (spellings-append front interval),
        length-append (spellings front) (spellings interval),
        indexes_take position begin (indexes_before t xs),
        takes (t - begin),
        ap length (before-from t xs),
        length-append (indexes_before t xs) (indexes_from t xs),
      )

last_time : (ts : List ℕ) → time_after 0 ts ≡ last_in ts
last_time [] = refl
last_time (t ∷ ts) = sym (last-is t ts)

stream_costs : (each : ℕ) (cost : ℕ → ℕ) → ((a b : ℕ) → cost a + cost b ≤ cost (a + b))
    → ((ticks : ℕ) → length (spellings (interval_blocks ticks)) ≤ cost ticks + each) → (ts xs : List ℕ) → IsNonDecreasing ts → IsStrictlyIncreasing xs
    → length (stream_of_times ts xs) ≤ each * length ts + cost (last_in ts) + 16 * length xs + 16
stream_costs each cost adds takes ts xs order rising =
    let all = many_blocks 0 0 ts xs in
    let last = last_blocks (position_after 0 0 ts) in
    omega (
      arith,
      ap (λ bs. length (spellings bs)) (stream_blocks-is ts xs rising),
      ap length (spellings-append all last),
      length-append (spellings all) (spellings last),
      many_take each cost adds takes 0 0 ts xs (InOrder-from_sorted 0 ts (from_zero ts order)),
      ap cost (last_time ts),
    )

pub stream_takes : (ts xs : List ℕ) → IsNonDecreasing ts → IsStrictlyIncreasing xs
    → length (stream_of_times ts xs) ≤ 3 * length ts + last_in ts / 65536 + 16 * length xs + 16
stream_takes = stream_costs 3 (λ ticks. ticks / 65536) (λ a b. omega arith) length-interval

-- two bytes a transition, and one for each 2048 ticks
pub stream_takes_close : (ts xs : List ℕ) → IsNonDecreasing ts → IsStrictlyIncreasing xs
    → length (stream_of_times ts xs) ≤ 2 * length ts + (last_in ts / 65536 + last_in ts / 2048) + 16 * length xs + 16
stream_takes_close = stream_costs 2 (λ ticks. ticks / 65536 + ticks / 2048) (λ a b. omega arith) length-interval_close

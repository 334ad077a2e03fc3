-- Streams that stand one after another in one input, by their places: a second spelling in plain
-- numbers, which cites none of the definitions that it is to check.
use Rattle.std.specs.Prelude.{◌≡◌, ◌≢◌, ◌<◌, ◌≤◌, ℕ, ◌+◌, List, length, slice_index}

-- So many streams stand in the input: the first at its begin, and each next one behind the one
-- before, with at most 16 bytes between them. Each of these is 13, and there are none before a
-- stream that does not begin with 13. What stands behind the last one is any.
pub record StandInOrder (count : ℕ) (stream : ℕ → List ℕ) (x : List ℕ) : Type 0 where
  pub begin : ℕ → ℕ
  pub first : begin 0 ≡ 0
  pub within : (k : ℕ) → k < count → begin k + length (stream k) ≤ length x
  pub bytes : (k i : ℕ) → k < count → i < length (stream k)
      → slice_index x (begin k + i) ≡ slice_index (stream k) i
  pub behind : (k : ℕ) → k + 1 < count → begin k + length (stream k) ≤ begin (k + 1)
  pub near : (k : ℕ) → k + 1 < count → begin (k + 1) ≤ begin k + length (stream k) + 16
  pub filled : (k place : ℕ) → k + 1 < count → begin k + length (stream k) ≤ place
      → place < begin (k + 1) → slice_index x place ≡ 13
  pub none_in_stream : (k : ℕ) → k + 1 < count → slice_index (stream (k + 1)) 0 ≢ 13
      → begin (k + 1) ≡ begin k + length (stream k)

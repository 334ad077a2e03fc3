-- Bytes between two streams of one input. The protocol knows one
-- stream alone: this rule is our own.
use Rattle.std.specs.Prelude.{◌≡◌, ◌≤◌, ◌<◌, ◌+◌, ◌==◌, ◌&&◌, ℕ, Bool, true, List, length, drop}
use Rattle.std.specs.Prelude.{get_or, take_while}
use Rattle.std.specs.List.{range_with_len}
use Rattle.kryo_stream.specs.Protocol.{OUT_OF_BAND, MOST_PADDING}

-- byte i is 0D, and the byte after it is 0D or does not exist, for which 0D stands too
abbrev pub is_padding : List ℕ → ℕ → Bool
is_padding x i = (get_or x i 0 == OUT_OF_BAND) && (get_or x (i + 1) OUT_OF_BAND == OUT_OF_BAND)

-- the greatest number at most MOST_PADDING such that each byte before it is padding
abbrev pub padding_of : List ℕ → ℕ
padding_of x = length (take_while (is_padding x) (range_with_len 0 MOST_PADDING))

-- what is left of x after the padding
abbrev pub unpadded : List ℕ → List ℕ
unpadded x = drop (padding_of x) x

-- k is the greatest number at most MOST_PADDING such that each byte before it is padding
pub record IsPadding (x : List ℕ) (k : ℕ) : Type 0 where
  pub within : k ≤ MOST_PADDING
  pub each : (i : ℕ) → i < k → is_padding x i ≡ true
  pub greatest : (m : ℕ) → m ≤ MOST_PADDING → ((i : ℕ) → i < m → is_padding x i ≡ true) → m ≤ k

-- Streams that stand one after another in one input.
use Rattle.std.specs.Prelude.{◌≡◌, ◌≢◌, ◌≤◌, ◌++◌, ℕ, All, List, [], length, slice_index, None}
use Rattle.kryo_stream.specs.Protocol.{OUT_OF_BAND, MOST_PADDING}
use Rattle.kryo_stream.specs.Padding.{unpadded}
use Rattle.kryo_stream.specs.Stream.{first_fault}

-- These bytes may stand as padding before a stream: at most 16 bytes 0D, and none
-- before a stream that begins with an in-stream block, since the last of them would be
-- read as the stream's first byte.
pub record MayStandBefore (padding stream : List ℕ) : Type 0 where
  pub each : All (λ byte. byte ≡ OUT_OF_BAND) padding
  pub few : length padding ≤ MOST_PADDING
  pub none_in_stream : slice_index stream 0 ≢ OUT_OF_BAND → padding ≡ []

-- padding before a stream is passed over, and no byte of the stream is
abbrev pub PaddingIsPassed : Type 0
PaddingIsPassed = (padding x later : List ℕ) → first_fault x ≡ None → MayStandBefore padding x
    → unpadded (padding ++ (x ++ later)) ≡ x ++ later

-- The streams of an input, one after another.
use Rattle.std.specs.Prelude.{ℕ, zero, suc, List, drop, nat_lt}
use Rattle.kryo_stream.specs.Outcome.{input_of}
use Rattle.kryo_stream.specs.Stream.{stream_length}

-- what stands after the stream that x begins with
abbrev pub behind_stream : List ℕ → List ℕ
behind_stream x = drop (stream_length x) x

-- what stands after the first n streams of an input; padding that
-- stands there is not passed over yet
unfoldable pub behind : List ℕ → ℕ → List ℕ
behind x zero = x
behind x (suc n) = behind_stream (input_of (nat_lt 0 n) (behind x n))

-- stream number n of an input, from 0, with all that stands after it: padding stands
-- before each stream but the first
abbrev pub stream_at : List ℕ → ℕ → List ℕ
stream_at x n = input_of (nat_lt 0 n) (behind x n)

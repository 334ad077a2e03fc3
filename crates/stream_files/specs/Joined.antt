-- What the files of joined streams are together: the input without its padding.
use Rattle.std.specs.Prelude.{◌≡◌, ◌≤◌, ◌++◌, ℕ, All, List, [], ◌∷◌, length, map}
use Rattle.std.specs.List.{range_with_len}
use Rattle.flux_engine.specs.Streams.{stream_at}
use Rattle.kryo_stream.specs.Protocol.{MOST_PADDING, OUT_OF_BAND}
use Rattle.stream_files.specs.Streams.{stream_bytes}

-- bytes that are passed over between streams: at most 16 bytes 0D
pub record IsPaddingRun (bytes : List ℕ) : Type 0 where
  pub each : All (λ byte. byte ≡ OUT_OF_BAND) bytes
  pub few : length bytes ≤ MOST_PADDING

-- x is these lists of bytes, one after another, and behind each of them padding, if any
abbrev pub AreJoinedWithPadding : (parts : List (List ℕ)) → (x : List ℕ) → Type 0
AreJoinedWithPadding [] x = x ≡ []
AreJoinedWithPadding (part ∷ parts) x =
    (padding rest : List ℕ) × (x ≡ part ++ (padding ++ rest)) × IsPaddingRun padding
    × AreJoinedWithPadding parts rest

-- so an input is the bytes of its streams, behind the last of which nothing but padding stands
abbrev pub FilesAreJoined : Type 0
FilesAreJoined = (x : List ℕ) (count : ℕ) → stream_at x count ≡ []
    → AreJoinedWithPadding (map (stream_bytes x) (range_with_len 0 count)) x

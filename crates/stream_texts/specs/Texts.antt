-- Info blocks (KryoFlux stream protocol, "Out of Band Block Format"),
-- and streams with one in front.
use Rattle.std.specs.Prelude.{◌≡◌, ◌≤◌, ◌<◌, ℕ, ◌+◌, ◌^◌, ◌++◌, List, length, None}
use Rattle.kryo_stream.specs.Blocks.{out_of_band}
use Rattle.kryo_stream.specs.Protocol.{INFO_TYPE, LIMIT}
use Rattle.kryo_stream.specs.Stream.{first_fault, indexes, stream_length, times}

-- the Info block of a text
abbrev pub text_block : List ℕ → List ℕ
text_block text = out_of_band INFO_TYPE (length text) ++ text

-- With a text in front of it x begins with a stream of the same transitions and index times.
pub record IsBehindText (text x : List ℕ) : Type 0 where
  pub no_fault : first_fault (text_block text ++ x) ≡ None
  pub times_are : times (text_block text ++ x) ≡ times x
  pub indexes_are : indexes (text_block text ++ x) ≡ indexes x
  pub whole : stream_length (text_block text ++ x) ≡ length (text_block text) + stream_length x

-- so it is with each stream without a fault, where both are no more bytes than a stream may have
abbrev pub TextsArePassed : Type 0
TextsArePassed = (text x : List ℕ) → length text < 2 ^ 16 → first_fault x ≡ None
    → length (text_block text) + stream_length x ≤ LIMIT → IsBehindText text x

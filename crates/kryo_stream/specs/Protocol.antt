-- The numbers of the KryoFlux stream protocol, and the limits that are our own choice.
use Rattle.std.specs.Prelude.{ℕ, ◌+◌, ◌*◌}

-- how long an overflow is
abbrev pub OVERFLOW_TICKS : ℕ
OVERFLOW_TICKS = 65536

-- 0D, the first byte of each out-of-band block
abbrev pub OUT_OF_BAND : ℕ
OUT_OF_BAND = 13

-- the types of out-of-band blocks, their second byte: 01, 02, 03, 04 and 0D
abbrev pub STREAM_INFO_TYPE : ℕ
STREAM_INFO_TYPE = 1

abbrev pub INDEX_TYPE : ℕ
INDEX_TYPE = 2

abbrev pub STREAM_END_TYPE : ℕ
STREAM_END_TYPE = 3

abbrev pub INFO_TYPE : ℕ
INFO_TYPE = 4

abbrev pub END_TYPE : ℕ
END_TYPE = 13

-- the sizes after the type; that of an Info is the length of its text, that of an End reads 0D0D
abbrev pub STREAM_INFO_SIZE : ℕ
STREAM_INFO_SIZE = 8

abbrev pub INDEX_SIZE : ℕ
INDEX_SIZE = 12

abbrev pub STREAM_END_SIZE : ℕ
STREAM_END_SIZE = 8

abbrev pub END_SIZE : ℕ
END_SIZE = 256 * 13 + 13

-- the most bytes of one stream
abbrev pub LIMIT : ℕ
LIMIT = 4194304

-- the most bytes that an intake holds
abbrev pub MOST_HELD : ℕ
MOST_HELD = 4096

-- the most bytes of padding between two streams
abbrev pub MOST_PADDING : ℕ
MOST_PADDING = 16

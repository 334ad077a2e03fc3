-- Steps of the crate's own functions, over what `Pieces` defines.
use Rattle.std.specs.Prelude.{◌≡◌, ◌≤◌, ℕ, ◌+◌, List, length, drop, slice_index}
use Rattle.byteorder.specs.Endian.{little_number}
use Rattle.kryo_stream.specs.Protocol.{OUT_OF_BAND, INFO_TYPE, LIMIT}

-- the header of an Info block of this size is at the front, and its end is within the limit
pub record IsText (offset : ℕ) (bytes : List ℕ) (size : ℕ) : Type 0 where
  pub header : 4 ≤ length bytes
  pub first : slice_index bytes 0 ≡ OUT_OF_BAND
  pub kind : slice_index bytes 1 ≡ INFO_TYPE
  pub size_is : little_number 2 (drop 2 bytes) ≡ size
  pub room : offset + (4 + size) ≤ LIMIT

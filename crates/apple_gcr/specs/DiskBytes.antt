-- How disk bytes are read from the cells, one after another: each from the cell after the one
-- before. By the strict rule a byte begins there; Apple's controller waits for the one with which
-- it begins, and the zeros before it are passed over.
use Rattle.std.specs.Prelude.{◌≡◌, ℕ, zero, suc, ◌+◌, ◌*◌, ◌<◌, Bool, true, false, List, [], ◌∷◌}
use Rattle.std.specs.Prelude.{get_or, take, drop}
use Rattle.apple_gcr.specs.declared.disk_bytes.ByteRule.{ByteRule}
use Rattle.apple_gcr.specs.declared.disk_bytes.ByteRule.TheVariants.{Strict, Controller}
use Rattle.apple_nibbles.specs.Nibbles.{BYTE_CELLS, disk_byte}

-- how many zeros before a byte are passed over at most: by the strict rule none, and by the
-- controller's, which waits however long, as many as an unbroken frame has in a row
abbrev pub zeros_passed : ByteRule → ℕ
zeros_passed Strict = 0
zeros_passed Controller = 7

-- how many zeros stand before the first one of the cells
unfoldable pub zeros_first : List Bool → ℕ
zeros_first [] = 0
zeros_first (true ∷ cells) = 0
zeros_first (false ∷ cells) = suc (zeros_first cells)

-- the place of the byte that is read from a place on, where so many zeros are passed over at most
unfoldable pub byte_place : ℕ → List Bool → ℕ → ℕ
byte_place passed cells from = from + zeros_first (take passed (drop from cells))

-- the place after so many bytes that are read from a place on
unfoldable pub bytes_end : ℕ → List Bool → ℕ → ℕ → ℕ
bytes_end passed cells from zero = from
bytes_end passed cells from (suc count) =
    byte_place passed cells (bytes_end passed cells from count) + BYTE_CELLS

-- byte number k, from 0, of those that are read from a place on
unfoldable pub byte_read : ℕ → List Bool → ℕ → ℕ → ℕ
byte_read passed cells from k =
    disk_byte cells (byte_place passed cells (bytes_end passed cells from k))

-- so many bytes of eight cells each begin with a one, from a place on
abbrev pub BeginAt : List Bool → ℕ → ℕ → Type 0
BeginAt cells from count = (k : ℕ) → k < count → get_or cells (from + BYTE_CELLS * k) false ≡ true

-- Check values that are an exclusive or.
use Rattle.std.specs.Prelude.{ℕ, List, fold, bit_xor, bit_and}

-- the exclusive or of all numbers of a list: the check value of Commodore and Apple fields
abbrev pub xor : List ℕ → ℕ
xor numbers = fold bit_xor 0 numbers

-- Amiga's check value of raw longs: their exclusive or in the data cells
-- alone, which are every second cell
abbrev pub data_xor : List ℕ → ℕ
data_xor longs = bit_and (xor longs) 0x55555555

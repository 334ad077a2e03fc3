-- Check values have 16 bits.
use Rattle.std.specs.Prelude.{ℕ, ◌*◌, ◌%◌, ◌<◌, Bool, true, false, List, [], ◌∷◌, if◌then◌else◌}
use Rattle.std.specs.Prelude.{nat_eq, bit_xor}
use Rattle.std.proofs.Common.{arith, lit<}
use Rattle.std.proofs.lemmas.Nat.{xor_of_16}
use Rattle.std.proofs.Math.Nat.{mod-lt}
use Rattle.std.specs.Int.{bit_at}
use Rattle.std.specs.List.{flat_map, fold}
use Rattle.check_values.specs.Crc.{GENERATOR, bits_of, crc, with_bit}
use Rattle.ibm_fields.specs.Fields.{high_first}
use Rattle.track_rings.specs.Rings.{AreBytes}

with_bit-lt : (remainder bit : ℕ) → with_bit remainder bit < 65536
unfolding with_bit
with_bit-lt remainder bit =
    let moved = 2 * remainder % 65536 in
    let low : moved < 65536 = mod-lt (2 * remainder) (lit< tt) in
    elim (nat_eq (bit_at remainder 15)
    bit) as (λ (same : Bool). (if same then moved else bit_xor moved GENERATOR) < 65536) [
      | true ↦ low
      | false ↦ xor_of_16 moved GENERATOR low (lit< tt)
    ]

fold-lt : (bits : List ℕ) (start : ℕ) → start < 65536 → fold with_bit start bits < 65536
fold-lt [] start low = low
fold-lt (bit ∷ bits) start low = fold-lt bits (with_bit start bit) (with_bit-lt start bit)

-- a check value has 16 bits
pub crc-lt : (start : ℕ) (bytes : List ℕ) → start < 65536 → crc start bytes < 65536
unfolding crc
crc-lt start bytes low = fold-lt (flat_map bits_of bytes) start low

-- so it has two bytes
pub AreBytes-high_first : (number : ℕ) → number < 65536 → AreBytes (high_first number)
unfolding AreBytes
AreBytes-high_first number fits = (omega arith, (mod-lt number (lit< tt), tt))

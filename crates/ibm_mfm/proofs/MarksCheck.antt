-- The check value of the three marks' bytes.
use Rattle.std.proofs.Common.{◌≡◌, ◌∷◌, [], refl}
use Rattle.check_values.specs.Crc.{crc, with_bit}

pub marks_check : 0xCDB4 ≡ crc 0xFFFF (0xA1 ∷ 0xA1 ∷ 0xA1 ∷ [])
unfolding crc with_bit
marks_check = refl

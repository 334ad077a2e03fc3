-- The zeros before a byte, by the byte's value.
use Rattle.std.proofs.Common.{◌≡◌, ℕ, ◌+◌, ◌<◌, ◌≤◌, Bool, List, length, map, take, drop, ap, sym, ◌∙◌, arith, refl, min}
use Rattle.std.proofs.lemmas.List.{take-take}
use Rattle.std.specs.List.{range_with_len}
use Rattle.std.specs.Int.Count.{count_leading_zeros}
use Rattle.cell_bits.specs.Word.{word_cells}
use Rattle.frame_law.specs.lemmas.WordRowLaws.{word_cells-word}
use Rattle.apple_gcr.specs.DiskBytes.{byte_place, zeros_first, zeros_passed}
use Rattle.apple_gcr.specs.declared.disk_bytes.ByteRule.{ByteRule}
use Rattle.apple_gcr.specs.declared.disk_bytes.ByteRule.TheVariants.{Controller, Strict}
use Rattle.apple_gcr.specs.lemmas.ByteLaws.{strict-place}
use Rattle.apple_nibbles.specs.Nibbles.{disk_byte}
use Rattle.apple_nibbles.specs.lemmas.NibbleLaws.{agree-below}

zeros_table : map (λ byte. min (count_leading_zeros 8 byte) 7) (range_with_len 0 256) ≡ map (λ byte. zeros_first (take 7 (word_cells 8 byte))) (range_with_len 0 256)
unfolding zeros_first word_cells count_leading_zeros
zeros_table = refl

pub zeros_of : (byte : ℕ) → byte < 256 → min (count_leading_zeros 8 byte) 7 ≡ zeros_first (take 7 (word_cells 8 byte))
zeros_of byte within =
    agree-below (λ b. min (count_leading_zeros 8 b) 7) (λ b. zeros_first (take 7 (word_cells 8 b))) 256 byte within zeros_table

-- those before the byte at a place
pub zeros_there : (cells : List Bool) (from : ℕ) → from + 8 ≤ length cells
    → byte_place 7 cells from ≡ from + zeros_first (take 7 (word_cells 8 (disk_byte cells from)))
unfolding byte_place disk_byte
zeros_there cells from within =
    ap (λ (part : List Bool). from + zeros_first part)
    (sym (take-take 7 8 (drop from cells) (omega arith)) ∙ ap (take 7) (sym (word_cells-word cells from 8 within)))

-- where none stand before it, it begins at the place by each rule
pub begins_here : (rule : ByteRule) (cells : List Bool) (from : ℕ) → from + 8 ≤ length cells
    → zeros_first (take 7 (word_cells 8 (disk_byte cells from))) ≡ 0 → from ≡ byte_place (zeros_passed rule) cells from
begins_here Strict cells from within none = sym (strict-place cells from)
begins_here Controller cells from within none = omega (arith, zeros_there cells from within, none)

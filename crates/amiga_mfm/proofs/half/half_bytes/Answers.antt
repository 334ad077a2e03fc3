use Rattle.std.proofs.Common.{◌≡◌, ℕ, ◌*◌, ◌+◌, ◌/◌, ◌%◌, ◌^◌, ◌∷◌, [], ap, ◌∙◌, arith}
use Rattle.amiga_mfm.specs.Longs.{half_bytes as bytes_of_half}
use Rattle.cell_bits.specs.Bytes.{data_byte}
use Rattle.cell_bits.specs.Word.{word_cells}
use Rattle.amiga_mfm.proofs.Nibbles.{first-byte, second-byte}
use Rattle.amiga_mfm.proofs.half.half_bytes.Goals as goal

pub returns : goal.returns
unfolding bytes_of_half
returns c =
    let half = c.args.half in
    let a = half / 2 ^ 24 % 256 in
    let b = half / 2 ^ 16 % 256 in
    let d = half / 2 ^ 8 % 256 in
    let e = half % 256 in
    let is : half ≡ (a * 2 ^ 8 + b) * 2 ^ 16 + (d * 2 ^ 8 + e) = omega arith in
    let first = first-byte half a b d e (omega arith) (omega arith) (omega arith) is c.data_nibble.result c.data_nibble-2.result
    c.data_nibble.ensures.bound c.data_nibble-2.ensures.bound (rw c.to_be_bytes.ensures at c.data_nibble.ensures.cells) (rw c.to_be_bytes.ensures at c.data_nibble-2.ensures.cells) in
    let second = second-byte half a b d e (omega arith) (omega arith) (omega arith) is c.data_nibble-3.result c.data_nibble-4.result
    c.data_nibble-3.ensures.bound c.data_nibble-4.ensures.bound (rw c.to_be_bytes.ensures at c.data_nibble-3.ensures.cells) (rw c.to_be_bytes.ensures at c.data_nibble-4.ensures.cells) in
    ap (λ (byte : ℕ). byte ∷ (16 * c.data_nibble-3.result + c.data_nibble-4.result) ∷ []) first
    ∙ ap (λ (byte : ℕ). data_byte (word_cells 32 half) 0 ∷ byte ∷ []) second

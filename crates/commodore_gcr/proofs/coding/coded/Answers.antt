use Rattle.std.proofs.Common.{◌≡◌, ◌*◌, ◌+◌, ◌/◌, ◌%◌, ap, sym, ◌∙◌, arith}
use Rattle.cell_bits.specs.Word.{word_cells}
use Rattle.commodore_gcr.specs.Coding.{code_of}
use Rattle.commodore_gcr.proofs.Tables.{code_in_table, gcr-cells, gcr_number}
use Rattle.commodore_gcr.proofs.coding.coded.Goals as goal

pub returns : goal.returns
returns c =
    let byte = c.args.byte in
    let nibble : byte / 16 ≡ byte / 16 % 16 = omega arith in
    let high : c.from.result ≡ code_of (byte / 16 % 16) = c.from.ensures ∙ code_in_table (byte / 16) ∙ ap code_of nibble in
    let low : c.from-2.result ≡ code_of (byte % 16) = c.from-2.ensures ∙ code_in_table (byte % 16) in
    let number : 32 * c.from.result + c.from-2.result ≡ gcr_number byte = omega (arith, high, low) in
    ap (word_cells 10) number ∙ sym (gcr-cells byte)

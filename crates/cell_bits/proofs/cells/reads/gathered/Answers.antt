use Rattle.std.proofs.Common.{◌≡◌, ◌%◌, bit_and, ◌∙◌, ap}
use Rattle.std.proofs.lemmas.Nat.{and_mask}
use Rattle.cell_bits.specs.Word.{word_cells}
use Rattle.cell_bits.specs.Bytes.{data_cells}
use Rattle.cell_bits.proofs.Tables.{both-gathered}
use Rattle.cell_bits.proofs.cells.reads.gathered.Goals as goal

pub returns : goal.returns
returns c =
    let mask : bit_and c.args.cells 255 ≡ c.args.cells % 256 = and_mask c.args.cells 8 in
    both-gathered c.args.cells _ _ c.gathered_nibble.ensures.bound c.gathered_nibble-2.ensures.bound c.gathered_nibble.ensures.cells
    (c.gathered_nibble-2.ensures.cells ∙ ap (λ n. data_cells (word_cells 8 n)) mask)

use Rattle.std.proofs.Common.{arith, length-append}
use Rattle.cell_bits.specs.Word.{word_cells}
use Rattle.cell_bits.specs.lemmas.WordLaws.{length-word_cells}
use Rattle.frame_law.specs.lemmas.WritingLaws.{AppendsCells-stop}
use Rattle.commodore_gcr.specs.Layout.{gap_cells}
use Rattle.commodore_gcr.specs.lemmas.RowLaws.{length-gap_cells}
use Rattle.commodore_gcr.proofs.rows.push_gap.Goals as goal

pub returns-in_err-push_gap_byte : goal.returns-in_err-push_gap_byte
returns-in_err-push_gap_byte c =
    let part = gap_cells c.loop.counter in
    AppendsCells-stop c.args.cells.now c.loop.cells c.push_gap_byte.new.cells part (word_cells 8 0x55) (gap_cells c.args.count) _
    c.from_residual.result c.from_residual.ensures.0 c.loop.invariant c.in_err-push_gap_byte.ensures
    (omega (
      arith,
      length-append part (word_cells 8 0x55),
      length-word_cells 8 0x55,
      length-gap_cells c.loop.counter,
      length-gap_cells c.args.count,
    ))

use Rattle.std.proofs.Common.{replicate, arith, length-append}
use Rattle.std.proofs.lemmas.List.{length-replicate}
use Rattle.cell_bits.specs.Word.{word_cells}
use Rattle.cell_bits.specs.lemmas.WordLaws.{length-word_cells}
use Rattle.frame_law.specs.lemmas.WritingLaws.{AppendsCells-stop}
use Rattle.frame_law.specs.lemmas.WordRowLaws.{length-row}
use Rattle.apple_nibbles.specs.Marks.{SELF_SYNC, self_syncs}
use Rattle.apple_nibbles.proofs.writing.push_self_syncs.Goals as goal

pub returns-in_err-push_cells : goal.returns-in_err-push_cells
returns-in_err-push_cells c =
    let part = replicate c.loop.counter SELF_SYNC in
    let whole = replicate c.args.count SELF_SYNC in
    let one = word_cells 10 SELF_SYNC in
    AppendsCells-stop c.args.cells.now c.loop.cells c.push_cells.new.cells (self_syncs c.loop.counter) one (self_syncs c.args.count) _
    c.from_residual.result c.from_residual.ensures.0 c.loop.invariant c.in_err-push_cells.ensures
    (omega (
      arith,
      length-append (self_syncs c.loop.counter) one,
      length-word_cells 10 SELF_SYNC,
      length-row 10 (word_cells 10) (length-word_cells 10) part,
      length-row 10 (word_cells 10) (length-word_cells 10) whole,
      length-replicate c.loop.counter SELF_SYNC,
      length-replicate c.args.count SELF_SYNC,
    ))

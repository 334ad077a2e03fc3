use Rattle.std.proofs.Common.{◌++◌, [], arith, append-nil, length-append}
use Rattle.cell_bits.specs.Word.{word_cells}
use Rattle.frame_law.specs.lemmas.WritingLaws.{AppendsCells-none, AppendsCells-more, AppendsCells-stop}
use Rattle.apple_gcr.specs.FourAndFour.{four_and_four, second_half}
use Rattle.apple_gcr.proofs.rows.push_four_and_four.Goals as goal

pub returns-in_err-push_byte : goal.returns-in_err-push_byte
unfolding four_and_four
returns-in_err-push_byte c =
    let first = word_cells 8 c.halves-first.result.0 in
    let second = word_cells 8 (second_half c.args.byte) in
    rw (← c.halves-first.ensures.first)
    (AppendsCells-stop c.args.cells.now c.args.cells.now c.push_byte.new.cells [] first (first ++ (second ++ [])) _ c.from_residual.result
    c.from_residual.ensures.0 (AppendsCells-none c.args.cells.now) c.in_err-push_byte.ensures
    (omega (arith, length-append first (second ++ []))))

pub returns : goal.returns
unfolding four_and_four
returns c =
    let first = word_cells 8 c.halves-first.result.0 in
    let second = word_cells 8 c.halves-first.result.1 in
    rw (append-nil, ← c.halves-first.ensures.first, ← c.halves-first.ensures.second)
    (AppendsCells-more c.args.cells.now c.push_byte.new.cells c.push_byte-2.new.cells first second c.push_byte-2.result
    c.in_ok-push_byte.ensures c.push_byte-2.ensures)

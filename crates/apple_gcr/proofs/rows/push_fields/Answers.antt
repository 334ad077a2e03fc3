use Rattle.frame_law.specs.lemmas.WritingLaws.{AppendsCells-none, AppendsCells-next, AppendsCells-short}
use Rattle.apple_gcr.specs.FourAndFour.{four_and_four}
use Rattle.apple_gcr.proofs.rows.push_fields.Goals as goal

pub loop-byte-init : goal.loop-byte-init
loop-byte-init c = AppendsCells-none c.args.cells.now

pub returns-in_err-push_four_and_four : goal.returns-in_err-push_four_and_four
returns-in_err-push_four_and_four c =
    AppendsCells-short four_and_four c.args.bytes.now
    c.args.cells.now c.loop-byte.cells c.push_four_and_four.new.cells c.loop-byte.byte-index 0 _ c.from_residual.result c.from_residual.ensures.0
    c.loop-byte-test.true c.loop-byte.invariant c.in_err-push_four_and_four.ensures

pub loop-byte-preserved : goal.loop-byte-preserved
loop-byte-preserved c =
    AppendsCells-next four_and_four c.args.bytes.now
    c.args.cells.now c.loop-byte.cells c.push_four_and_four.new.cells c.loop-byte.byte-index 0
    c.loop-byte-test.true c.loop-byte.invariant c.in_ok-push_four_and_four.ensures

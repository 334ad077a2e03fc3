use Rattle.cell_bits.specs.Bytes.{fm}
use Rattle.frame_law.specs.lemmas.WritingLaws.{AppendsCells-none, AppendsCells-next, AppendsCells-short}
use Rattle.ibm_fm.proofs.rows.push_bytes.Goals as goal

pub loop-byte-init : goal.loop-byte-init
loop-byte-init c = AppendsCells-none c.args.cells.now

pub returns-in_err-push_byte : goal.returns-in_err-push_byte
returns-in_err-push_byte c =
    AppendsCells-short fm c.args.bytes.now
    c.args.cells.now c.loop-byte.cells c.push_byte.new.cells c.loop-byte.byte-index 0 _ c.from_residual.result c.from_residual.ensures.0
    c.loop-byte-test.true c.loop-byte.invariant c.in_err-push_byte.ensures

pub loop-byte-preserved : goal.loop-byte-preserved
loop-byte-preserved c =
    AppendsCells-next fm c.args.bytes.now
    c.args.cells.now c.loop-byte.cells c.push_byte.new.cells c.loop-byte.byte-index 0
    c.loop-byte-test.true c.loop-byte.invariant c.in_ok-push_byte.ensures

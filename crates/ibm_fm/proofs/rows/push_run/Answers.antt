use Rattle.std.proofs.Common.{replicate, arith, length-append}
use Rattle.std.proofs.lemmas.List.{length-replicate}
use Rattle.cell_bits.specs.Bytes.{fm}
use Rattle.frame_law.specs.lemmas.WritingLaws.{AppendsCells-stop}
use Rattle.ibm_fm.specs.Layout.{fm_bytes}
use Rattle.ibm_fm.specs.lemmas.RowLaws.{length-fm, length-fm_bytes}
use Rattle.ibm_fm.proofs.rows.push_run.Goals as goal

pub returns-in_err-push_byte : goal.returns-in_err-push_byte
returns-in_err-push_byte c =
    let part = replicate c.loop.counter c.args.byte in
    let whole = replicate c.args.count c.args.byte in
    AppendsCells-stop c.args.cells.now c.loop.cells c.push_byte.new.cells (fm_bytes part) (fm c.args.byte) (fm_bytes whole) _
    c.from_residual.result c.from_residual.ensures.0 c.loop.invariant c.in_err-push_byte.ensures
    (omega (
      arith,
      length-append (fm_bytes part) (fm c.args.byte),
      length-fm c.args.byte,
      length-fm_bytes part,
      length-fm_bytes whole,
      length-replicate c.loop.counter c.args.byte,
      length-replicate c.args.count c.args.byte,
    ))

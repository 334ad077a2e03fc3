use Rattle.std.proofs.Common.{◌++◌, ◌∷◌, [], Ok, arith}
use Rattle.amiga_mfm.specs.Layout.{check_of_header, header_halves, label}
use Rattle.amiga_mfm.specs.Longs.{halves}
use Rattle.amiga_mfm.proofs.Pushes.{halves-more, halves-stop, no-halves}
use Rattle.amiga_mfm.proofs.rows.push_header.Goals as goal

pub returns-in_err-push_longs : goal.returns-in_err-push_longs
returns-in_err-push_longs c =
    let info = c.args.info in
    halves-stop c.args.cells.now c.args.cells.now c.push_longs.new.cells [] (halves (info ∷ [])) c.from_residual.result (no-halves c.args.cells.now)
    (header_halves info) _ c.from_residual.ensures.0 c.in_err-push_longs.ensures (omega arith)

pub returns-in_err-push_longs-2 : goal.returns-in_err-push_longs-2
returns-in_err-push_longs-2 c =
    let info = c.args.info in
    halves-stop c.args.cells.now c.push_longs.new.cells c.push_longs-2.new.cells (halves (info ∷ [])) (halves label) c.from_residual-in_err-push_longs-2.result
    c.in_ok-push_longs.ensures (header_halves info) _ c.from_residual-in_err-push_longs-2.ensures.0 c.in_err-push_longs-2.ensures (omega arith)

pub returns : goal.returns
returns c =
    let info = c.args.info in
    let first = halves-more c.args.cells.now c.push_longs.new.cells c.push_longs-2.new.cells (halves (info ∷ [])) (halves label) (Ok tt)
    c.in_ok-push_longs.ensures c.in_ok-push_longs-2.ensures in
    halves-more c.args.cells.now c.push_longs-2.new.cells c.push_longs-3.new.cells (halves (info ∷ []) ++ halves label)
    (halves (check_of_header info ∷ [])) c.push_longs-3.result first (rw c.header_check.ensures at c.push_longs-3.ensures)

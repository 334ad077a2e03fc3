use Rattle.std.proofs.Common.{◌∷◌, [], arith, length-append}
use Rattle.amiga_mfm.specs.Layout.{check_of_data, content_halves}
use Rattle.amiga_mfm.specs.Longs.{halves}
use Rattle.amiga_mfm.proofs.Pushes.{halves-more, halves-stop, no-halves}
use Rattle.amiga_mfm.proofs.rows.push_content.Goals as goal

pub returns-in_err-push_longs : goal.returns-in_err-push_longs
returns-in_err-push_longs c =
    let longs = c.args.longs.now in
    let check = halves (check_of_data longs ∷ []) in
    halves-stop c.args.cells.now c.args.cells.now c.push_longs.new.cells [] check c.from_residual.result (no-halves c.args.cells.now) (content_halves longs) _
    c.from_residual.ensures.0 (rw c.data_check.ensures at c.in_err-push_longs.ensures) (omega (arith, length-append check (halves longs)))

pub returns : goal.returns
returns c =
    let longs = c.args.longs.now in
    halves-more c.args.cells.now c.push_longs.new.cells c.push_longs-2.new.cells (halves (check_of_data longs ∷ [])) (halves longs)
    c.push_longs-2.result (rw c.data_check.ensures at c.in_ok-push_longs.ensures) c.push_longs-2.ensures

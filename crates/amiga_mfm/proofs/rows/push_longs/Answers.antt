use Rattle.std.proofs.Common.{[], arith, map}
use Rattle.std.proofs.lemmas.List.{length-map}
use Rattle.amiga_mfm.specs.declared.half.Half.TheVariants.{Odd, Even}
use Rattle.amiga_mfm.specs.Longs.{half_of, halves}
use Rattle.amiga_mfm.specs.lemmas.RowLaws.{length-halves}
use Rattle.amiga_mfm.proofs.Pushes.{halves-more, halves-stop, no-halves}
use Rattle.amiga_mfm.proofs.rows.push_longs.Goals as goal

pub returns-in_err-push_halves : goal.returns-in_err-push_halves
returns-in_err-push_halves c =
    let longs = c.args.longs.now in
    let odd = map (half_of Odd) longs in
    halves-stop c.args.cells.now c.args.cells.now c.push_halves.new.cells [] odd c.from_residual.result (no-halves c.args.cells.now) (halves longs) _
    c.from_residual.ensures.0 c.in_err-push_halves.ensures (omega (arith, length-map longs (half_of Odd), length-halves longs))

pub returns : goal.returns
returns c =
    let longs = c.args.longs.now in
    halves-more c.args.cells.now c.push_halves.new.cells c.push_halves-2.new.cells (map (half_of Odd) longs) (map (half_of Even) longs)
    c.push_halves-2.result c.in_ok-push_halves.ensures c.push_halves-2.ensures

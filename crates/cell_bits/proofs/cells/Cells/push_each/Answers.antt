use Rattle.std.proofs.Common.{List, Bool, length, take, flat_map, arith, ap, length-append}
use Rattle.std.proofs.lemmas.Bool.{false≢true}
use Rattle.cell_bits.specs.Run.{run_cells}
use Rattle.cell_bits.proofs.Runs.{run-within}
use Rattle.cell_bits.proofs.cells.Cells.push_each.Goals as goal

pub returns-in_err-push_run-clause-succeeds : goal.returns-in_err-push_run-clause-succeeds
returns-in_err-push_run-clause-succeeds c = λ enough.
    let before : List Bool = flat_map run_cells (take c.loop-place.place c.args.counts.now) in
    absurd (false≢true (c.in_err-push_run.ensures.succeeds (omega (
      arith,
      enough,
      c.loop-place.invariant.room,
      ap length c.loop-place.invariant.cells,
      length-append c.args.self.now.cells before,
      run-within c.args.counts.now c.loop-place.place c.loop-place-test.true (c.requires.runs c.loop-place.place 0 c.loop-place-test.true).0,
    ))))

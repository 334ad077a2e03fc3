use Rattle.cell_bits.proofs.FourRuns.{four_runs}
use Rattle.cell_bits.proofs.cells.pushes.four_runs.Goals as goal

pub returns-clause-cells : goal.returns-clause-cells
returns-clause-cells c =
    rw (c.place_of_four-place.ensures, c.sum_of_four-cells.ensures)
    (four_runs c.args.first c.args.second c.args.third c.args.fourth c.requires.short).cells_are

pub returns-clause-fits : goal.returns-clause-fits
returns-clause-fits c =
    rw (c.place_of_four-place.ensures, c.sum_of_four-cells.ensures)
    (four_runs c.args.first c.args.second c.args.third c.args.fourth c.requires.short).fits

use Rattle.std.proofs.Common.{ℕ, List, [], ◌∷◌, slice_index, arith}
use Rattle.cell_bits.proofs.Appending.{joint-lt}
use Rattle.cell_bits.proofs.FourRuns.{eight, eight_runs}
use Rattle.cell_bits.proofs.cells.pushes.joined_runs.Goals as goal

pub returns-clause-cells : goal.returns-clause-cells
returns-clause-cells c =
    let counts : List ℕ = c.args.counts.now in
    let first = c.four_runs-first.ensures in
    let second = c.four_runs-second.ensures in
    eight_runs counts
    (slice_index counts 0 ∷ slice_index counts 1 ∷ slice_index counts 2 ∷ slice_index counts 3 ∷ [])
    (slice_index counts 4 ∷ slice_index counts 5 ∷ slice_index counts 6 ∷ slice_index counts 7 ∷ [])
    c.four_runs-first.result.0 c.four_runs-second.result.0 c.four_runs-first.result.1 c.four_runs-second.result.1
    (eight counts c.requires.eight) first.cells second.cells first.fits second.fits (omega (arith, first.most, second.most))

pub returns-clause-fits : goal.returns-clause-fits
returns-clause-fits c =
    let first = c.four_runs-first.ensures in
    let second = c.four_runs-second.ensures in
    joint-lt c.four_runs-first.result.0 c.four_runs-second.result.0 c.four_runs-first.result.1 c.four_runs-second.result.1
    first.fits second.fits (omega (arith, first.most, second.most))

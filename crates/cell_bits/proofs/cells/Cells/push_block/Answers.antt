use Rattle.cell_bits.proofs.Runs.{runs-short}
use Rattle.std.proofs.Common.{arith}
use Rattle.cell_bits.proofs.cells.Cells.push_block.Goals as goal

pub push_groups-requires : goal.push_groups-requires
push_groups-requires c = record {
  short = runs-short c.args.counts.now c.longest_run.result c.requires.runs c.longest_run.ensures.bound (omega (arith, c.if-longest_run-gt-LONGEST_SHORT.false));
}

use Rattle.std.proofs.Common.{◌≡◌, ◌*◌, ◌≤◌, ◌++◌, take, flat_map}
use Rattle.cell_bits.specs.State.{room}
use Rattle.cell_bits.specs.Run.{run_cells}
use Rattle.cell_bits.proofs.cells.Cells.push_blocks.Given as goal

abbrev pub invariant-loop-block : goal.invariant-loop-block
invariant-loop-block l = record {
  cells : l.self.cells ≡ l.fn.self.cells ++ flat_map run_cells (take (256 * l.block) l.counts);
  room : room l.fn.self ≤ room l.self;
}

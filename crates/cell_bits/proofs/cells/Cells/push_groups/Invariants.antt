use Rattle.std.proofs.Common.{◌≡◌, ◌*◌, ◌≤◌, ◌++◌, take, flat_map}
use Rattle.cell_bits.specs.State.{room}
use Rattle.cell_bits.specs.Run.{run_cells}
use Rattle.cell_bits.proofs.cells.Cells.push_groups.Given as goal

abbrev pub invariant-loop-group : goal.invariant-loop-group
invariant-loop-group l = record {
  cells : l.self.cells ≡ l.fn.self.cells ++ flat_map run_cells (take (8 * l.group) l.counts);
  room : room l.fn.self ≤ room l.self;
}

use Rattle.std.proofs.Common.{◌≡◌, ◌≤◌, ◌<◌, ℕ, get_or, length}
use Rattle.std.specs.Vec.{vec_capacity}
use Rattle.cell_bits.specs.State.{room}
use Rattle.flux_engine.specs.Room.{MOST_CELLS}
use Rattle.flux_engine.specs.SharedCells.{FEW_CELLS}
use Rattle.flux_engine.specs.declared.shared_cells.CellSlot.{CellSlot as Slot}
use Rattle.flux_engine.proofs.shared_cells.SharedCells.reserve.Given as goal

abbrev pub invariant-loop-number : goal.invariant-loop-number
invariant-loop-number l = record {
  low : 1 ≤ l._number;
  many : length l.slots.items ≡ l._number;
  capacity : 10 ≤ vec_capacity l.slots;
  most : (d : Slot) → MOST_CELLS ≤ room (get_or l.slots.items 0 d).cells;
  few : (k : ℕ) (d : Slot) → k < length l.slots.items → FEW_CELLS ≤ room (get_or l.slots.items k d).cells;
}

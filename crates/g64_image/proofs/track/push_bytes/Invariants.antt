use Rattle.std.proofs.Common.{◌≡◌, ◌≤◌, ◌+◌, ◌*◌, ◌++◌, length, take}
use Rattle.cell_bits.specs.State.{room}
use Rattle.g64_image.specs.Layout.{cells_of_bytes}
use Rattle.g64_image.proofs.track.push_bytes.Given as goal

abbrev pub invariant-loop-index : goal.invariant-loop-index
invariant-loop-index l = record {
  cells : l.cells.cells ≡ l.initial.cells.cells ++ cells_of_bytes (take l.index l.bytes);
  len : length l.cells.cells ≡ length l.initial.cells.cells + 8 * l.index;
  room : room l.initial.cells ≤ room l.cells;
}

-- Cells that a call appends.
use Rattle.std.specs.Prelude.{◌≡◌, ◌≤◌, Bool, List, ◌++◌, length, OnOk, IsOk}
use Rattle.std.specs.declared.result.Result.{Result}
use Rattle.flux_base.specs.declared.outside.Memory.{Memory}
use Rattle.cell_bits.specs.State.{CellsState, room}

-- Ok says that the cells were appended. There is no want of memory where there was room for them.
pub record AppendsCells (old new : CellsState) (cells : List Bool)
    (result : Result (Unit {0}) Memory) : Type 0 where
  pub ok : OnOk result (new.cells ≡ old.cells ++ cells)
  pub room_stays : room old ≤ room new
  pub succeeds : length cells ≤ old.spare → IsOk result

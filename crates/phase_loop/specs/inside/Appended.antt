-- The cells of the first transitions of a track.
use Rattle.std.specs.Prelude.{◌≡◌, ℕ, ◌+◌, ◌*◌, ◌≤◌, List, length, take}
use Rattle.cell_bits.specs.State.{CellsState, room}
use Rattle.phase_loop.specs.Start.{LONGEST}
use Rattle.phase_loop.specs.Rows.{recovered}
use Rattle.phase_loop.specs.State.{LoopState, Holds}
use Rattle.phase_loop.specs.declared.start.LoopStart.{LoopStart}

-- after transition number n
pub record IsAppended (start : LoopStart) (times : List ℕ) (n : ℕ) (bench : LoopState)
    (before cells : CellsState) : Type 0 where
  pub holds : Holds bench start (take (n + 1) times)
  pub cells_are : cells.cells ≡ recovered start (take (n + 1) times)
  pub keeps : room before ≤ room cells
  pub short : length cells.cells ≤ LONGEST * n + 1

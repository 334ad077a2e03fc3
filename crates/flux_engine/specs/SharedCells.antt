-- The cells that are kept of one stream, for each place at which a clock started.
use Rattle.std.specs.Prelude.{◌≡◌, ◌≤◌, ◌<◌, ℕ, Bool, List, Option, Some, None, get_or, length}
use Rattle.cell_bits.specs.State.{room}
use Rattle.phase_loop.specs.Rows.{recovered}
use Rattle.phase_loop.specs.Start.{IsStart}
use Rattle.phase_loop.specs.declared.start.LoopStart.{LoopStart}
use Rattle.flux_engine.specs.Gathering.{AreCellsOf}
use Rattle.flux_engine.specs.Room.{MOST_CELLS}
use Rattle.flux_engine.specs.declared.shared_cells.CellSlot.{CellSlot}

-- cells that were recovered of these transitions from where a clock started
pub record AreRecovered (start : LoopStart) (times : List ℕ) (cells : List Bool) : Type 0 where
  pub starts : IsStart start
  pub cells_are : cells ≡ recovered start times
  pub are : AreCellsOf times cells

-- if it did
abbrev pub HoldsCells : (start : Option LoopStart) → (times : List ℕ) → (cells : List Bool) → Type 0
HoldsCells None times cells = Unit {0}
HoldsCells (Some start) times cells = AreRecovered start times cells

-- the most cells of so many transitions as are kept for more than one start
abbrev pub FEW_CELLS : ℕ
FEW_CELLS = 16000000

-- The first of these slots have cells of these transitions. There is room in the first slot for the
-- most cells of one stream, and in each for those of few transitions.
pub record AreKept (used : ℕ) (slots : List CellSlot) (times : List ℕ) : Type 0 where
  pub some : 0 < length slots
  pub within : used ≤ length slots
  pub most : (d : CellSlot) → MOST_CELLS ≤ room (get_or slots 0 d).cells
  pub few : (k : ℕ) (d : CellSlot) → k < length slots → FEW_CELLS ≤ room (get_or slots k d).cells
  pub hold : (k : ℕ) (d : CellSlot) → k < used
      → HoldsCells (get_or slots k d).start times (get_or slots k d).cells.cells

-- one of them has the cells of this start
pub record HoldsIn (slots : List CellSlot) (slot : ℕ) (start : LoopStart)
    (times : List ℕ) : Type 0 where
  pub low : slot < length slots
  pub holds : (d : CellSlot) → AreRecovered start times (get_or slots slot d).cells.cells

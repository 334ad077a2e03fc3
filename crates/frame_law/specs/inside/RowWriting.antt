-- Rows of a track that a call appends.
use Rattle.std.specs.Prelude.{ℕ, Bool, ◌&&◌, List}
use Rattle.std.specs.declared.result.Result.{Result}
use Rattle.flux_base.specs.declared.outside.Memory.{Memory}
use Rattle.cell_bits.specs.Bytes.{last_cell}
use Rattle.cell_bits.specs.State.{CellsState}
use Rattle.track_rings.specs.Rows.{TrackRow, coded, part_cells}
use Rattle.frame_law.specs.Writing.{AppendsCells}

-- Ok says that they were appended, the first after the last of the cells that there were. There is
-- no want of memory where there was room for them.
abbrev pub AppendsParts : {Row : Type 0} → Bool → (Bool → ℕ → List ℕ → Row → List Bool) → CellsState
    → CellsState → List (TrackRow Row)
    → Result (Unit {0}) Memory → Type 0
AppendsParts asks cells_of old new parts result =
    AppendsCells old new (coded asks (part_cells cells_of) (asks && last_cell old.cells) parts)
    result

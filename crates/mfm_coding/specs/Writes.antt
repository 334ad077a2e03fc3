-- Bytes and marks that a call appends, in MFM after the cells that there were.
use Rattle.std.specs.Prelude.{List}
use Rattle.std.specs.declared.result.Result.{Result}
use Rattle.flux_base.specs.declared.outside.Memory.{Memory}
use Rattle.cell_bits.specs.Bytes.{last_cell}
use Rattle.cell_bits.specs.State.{CellsState}
use Rattle.frame_law.specs.Writing.{AppendsCells}
use Rattle.mfm_coding.specs.declared.symbol.Symbol.{Symbol}
use Rattle.mfm_coding.specs.Coding.{coded}

-- Ok says that they were appended. There is no want of memory where there was room for them.
abbrev pub AppendsSymbols : CellsState → CellsState → List Symbol → Result (Unit {0}) Memory
    → Type 0
AppendsSymbols old new symbols result =
    AppendsCells old new (coded (last_cell old.cells) symbols) result

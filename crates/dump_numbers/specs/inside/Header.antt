-- A header in the cells that were recovered from a stream's transitions.
use Rattle.std.specs.Prelude.{◌≡◌, ◌<◌, ◌≤◌, ◌+◌, length, take}
use Rattle.cell_bits.specs.Ones.{ones}
use Rattle.flux_engine.specs.Gathering.{AreCellsOf}
use Rattle.dump_numbers.specs.declared.header.FoundHeader.{FoundHeader}

pub record IsFound (header : FoundHeader) : Type 0 where
  pub turns : 2 ≤ length header.flux.now.indexes
  pub cells : AreCellsOf header.flux.now.times header.cells.now.cells
  pub ones_to : header.ones_to ≡ ones (take (header.place + 1) header.cells.now.cells)
  pub within : header.place < length header.cells.now.cells

-- What contracts see of the room in which files are written and read.
use Rattle.std.specs.Prelude.{◌≤◌}
use Rattle.cell_bits.specs.State.{CellsState, room}
use Rattle.flux_engine.specs.Room.{IsBookOf}
use Rattle.sector_images.specs.declared.format.Format.{Format}
use Rattle.turn_merge.specs.Book.{Knowledge}

-- room for the cells of the longest track of a file, twice, and for the readings of any track
abbrev pub IsRoomy : Format → CellsState → Knowledge → Type 0
IsRoomy format cells book = (1048560 ≤ room cells) × IsBookOf format book

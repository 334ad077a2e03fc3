-- Cells in fine units, which are 1/1024 of a period of the capture's clock of 168192000/7 Hz.
use Rattle.std.specs.Prelude.{ℕ, ◌*◌, ◌/◌}

-- a cell of so many quarters of a microsecond
abbrev pub fine_units : ℕ → ℕ
fine_units quarters = quarters * 168192000 * 1024 / (7 * 4000000)

-- a cell of so many periods of a clock of 12 MHz
abbrev pub fine_units_of_12 : ℕ → ℕ
fine_units_of_12 periods = periods * 168192000 * 1024 / (7 * 12000000)

-- a cell of which so many take one turn, where a minute has 300
abbrev pub cell_of_turn : ℕ → ℕ
cell_of_turn cells = 168192000 * 1024 / (7 * 5 * cells)

-- What the command `turns` prints.
use Rattle.std.specs.Prelude.{ℕ, ◌-◌, ◌++◌, List, length, flat_map}
use Rattle.std.specs.List.{range_with_len}
use Rattle.index_turns.specs.Track.{turn_length}
use Rattle.sector_report.specs.Lines.{transitions_text, turn_text}

-- the line of one turn
abbrev pub turn_line_of : List ℕ → ℕ → List ℕ
turn_line_of indexes turn = turn_text turn (turn_length indexes turn)

-- the lines of so many turns, from turn 1 on
abbrev pub turn_lines : List ℕ → ℕ → List ℕ
turn_lines indexes count = flat_map (turn_line_of indexes) (range_with_len 1 count)

-- the number of the transitions, and then a line for each turn: there is one turn
-- less than there are index times
abbrev pub turns_text : List ℕ → List ℕ → List ℕ
turns_text times indexes =
    transitions_text (length times) ++ turn_lines indexes (length indexes - 1)

-- How many cells are recovered at most.
use Rattle.std.specs.Prelude.{ℕ, ◌*◌, ◌≤◌, List, length}
use Rattle.phase_loop.specs.Rows.{recovered}
use Rattle.phase_loop.specs.Start.{LONGEST}
use Rattle.phase_loop.specs.declared.start.LoopStart.{LoopStart}

-- as many as the loop counts at most before it starts anew, for each transition
abbrev pub CellsAreFew : Type 0
CellsAreFew =
    (start : LoopStart) (times : List ℕ) → length (recovered start times) ≤ LONGEST * length times

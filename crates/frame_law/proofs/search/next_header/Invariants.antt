use Rattle.std.proofs.Common.{◌-◌, ◌≤◌, length}
use Rattle.frame_law.specs.Readings.{NoHeader}
use Rattle.frame_law.proofs.search.next_header.Given as goal

abbrev pub invariant-loop-place : goal.invariant-loop-place
invariant-loop-place g l =
    (l.fn.from ≤ l.behind)
    × NoHeader (g.R.Recording.header_at l.recording l.track) l.cells.cells l.fn.from l.behind

abbrev pub decreases-loop-place : goal.decreases-loop-place
decreases-loop-place g l = length l.cells.cells - l.behind

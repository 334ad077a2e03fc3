use Rattle.std.proofs.Common.{◌-◌, ◌≤◌, length}
use Rattle.frame_law.proofs.Names.{NoNames}
use Rattle.frame_law.proofs.search.next_found.Given as goal

abbrev pub invariant-loop-place : goal.invariant-loop-place
invariant-loop-place g l = (l.fn.from ≤ l.behind) × NoNames (g.R.Recording.named_at l.recording) l.cells.cells l.fn.from l.behind

abbrev pub decreases-loop-place : goal.decreases-loop-place
decreases-loop-place g l = length l.cells.cells - l.behind

use Rattle.std.proofs.Common.{◌-◌, ◌≤◌, length}
use Rattle.flux_engine.proofs.NameWalks.{NoNames}
use Rattle.flux_engine.proofs.names.next_name.Given as goal

abbrev pub invariant-loop-place : goal.invariant-loop-place
invariant-loop-place g l = (l.fn.from ≤ l.behind) × NoNames (g.R.Recording.named_at l.recording) l.cells.cells l.fn.from l.behind

abbrev pub decreases-loop-place : goal.decreases-loop-place
decreases-loop-place g l = length l.cells.cells - l.behind

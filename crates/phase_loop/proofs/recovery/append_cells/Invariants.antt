use Rattle.std.proofs.Common.{◌-◌, ◌<◌, length}
use Rattle.phase_loop.specs.inside.Appended.{IsAppended}
use Rattle.phase_loop.proofs.recovery.append_cells.Given as goal

abbrev pub invariant-loop-last : goal.invariant-loop-last
invariant-loop-last l = (l.last < length l.times) × IsAppended l.fn.start l.times l.last l.bench l.fn.cells l.cells

abbrev pub decreases-loop-last : goal.decreases-loop-last
decreases-loop-last l = length l.times - l.last

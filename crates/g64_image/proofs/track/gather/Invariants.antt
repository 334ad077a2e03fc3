use Rattle.std.proofs.Common.{length, ◌-◌}
use Rattle.g64_image.specs.Gathering.{IsWalk}
use Rattle.g64_image.proofs.track.gather.Given as goal

abbrev pub invariant-loop-cell : goal.invariant-loop-cell
invariant-loop-cell g l =
    IsWalk (g.R.Recording.header_at l.recording l.track) (g.R.Recording.sector_at l.recording l.track) l.cells.cells l.end l.from l.initial.book l.book

abbrev pub decreases-loop-cell : goal.decreases-loop-cell
decreases-loop-cell g l = length l.cells.cells - l.from

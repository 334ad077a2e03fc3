use Rattle.std.proofs.Common.{◌≡◌, All, length, take}
use Rattle.cell_bits.specs.Run.{IsRun}
use Rattle.phase_loop.proofs.phase.guess.Guess.put_counts.Given as goal

abbrev pub invariant-loop-place : goal.invariant-loop-place
invariant-loop-place l = (length l.counts ≡ length l.fn.counts) × All IsRun (take l.place l.counts)

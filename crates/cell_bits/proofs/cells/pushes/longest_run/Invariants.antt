use Rattle.std.proofs.Common.{ℕ, ◌≤◌, All, take}
use Rattle.cell_bits.proofs.cells.pushes.longest_run.Given as goal

abbrev pub invariant-loop-place : goal.invariant-loop-place
invariant-loop-place l = record {
  bound : All (λ count. count ≤ l.longest) (take l.place l.counts);
  least : (most : ℕ) → All (λ count. count ≤ most) l.counts → l.longest ≤ most;
}

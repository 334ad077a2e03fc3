use Rattle.std.specs.Prelude.{◌≡◌, ◌-◌, ◌<◌, ℕ, true}
use Rattle.cell_bits.specs.Word.{digit}
use Rattle.cell_bits.proofs.cells.search.begins_with_ones.Given as goal

abbrev pub invariant-loop-offset : goal.invariant-loop-offset
invariant-loop-offset l = (i : ℕ) → i < l.offset → digit l.word (l.count - 1 - i) ≡ true

use Rattle.std.proofs.Common.{◌≡◌, ◌-◌, ◌<◌, ℕ, true}
use Rattle.cell_bits.specs.Word.{digit}
use Rattle.cell_bits.specs.inside.Window.{StandAt}
use Rattle.cell_bits.proofs.cells.search.Rarer.stand_nowhere.Given as goal

abbrev pub invariant-loop-index : goal.invariant-loop-index
invariant-loop-index l = (k : ℕ) → k < 64 → StandAt l.high l.low l.self.offsets l.index l.self.one k → digit l.places (63 - k) ≡ true

use Rattle.std.proofs.Common.{◌≡◌, ◌≤◌, length}
use Rattle.cell_bits.specs.inside.Window.{AreCellsOf, AreLeftOf}
use Rattle.cell_bits.proofs.cells.search.Rarer.of.Given as goal

abbrev pub invariant-loop : goal.invariant-loop
invariant-loop l = record {
  whole : length l.offsets ≡ 32;
  few : l.many ≤ l.counter;
  cells : AreCellsOf l.word l.count l.offsets l.many l.one;
  left : AreLeftOf l.word l.count l.left l.one;
}

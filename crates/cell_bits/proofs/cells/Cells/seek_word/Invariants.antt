use Rattle.std.proofs.Common.{◌-◌, ◌≤◌}
use Rattle.cell_bits.specs.Search.{StandsNowhere}
use Rattle.cell_bits.specs.inside.Window.{IsWindow}
use Rattle.cell_bits.proofs.cells.Cells.seek_word.Given as goal

abbrev pub invariant-loop-place : goal.invariant-loop-place
invariant-loop-place l = record {
  ahead : l.from ≤ l.place;
  shown : IsWindow l.self.cells l.place l.here;
  passed : StandsNowhere l.self.cells l.word l.count l.from l.place;
}

abbrev pub decreases-loop-place : goal.decreases-loop-place
decreases-loop-place l = l.end - l.place

use Rattle.std.proofs.Common.{◌≡◌, ◌-◌, ◌≤◌, ℕ, List, [], ◌<◌}
use Rattle.frame_law.specs.Controller.{DataStandAt, NamedHeaderStands}
use Rattle.frame_law.proofs.Headers.{NoNamed}
use Rattle.frame_law.proofs.data_search.next_data.Given as goal

abbrev pub invariant-loop-start : goal.invariant-loop-start
invariant-loop-start g l = record {
  low : l.fn.from ≤ l.start;
  after : l.header_end ≤ l.start;
  before : l.header_end ≤ l.seen;
  behind : l.seen ≤ l.start;
  clear : NoNamed g.L.Layout.CODING.sync g.L.Layout.CODING.sync_cells (g.L.Layout.header_end l.layout) (g.L.Layout.names l.layout) l.frame l.header_end l.seen;
  empty : g.D.DataReader.keeps l.reader [];
  none : (place : ℕ) (bytes : List ℕ) → l.fn.from ≤ place → place < l.start
      → ¬ DataStandAt (g.L.Layout.header_end l.layout) (g.L.Layout.data_end l.layout l.size) (g.L.Layout.is_sync l.layout) (g.L.Layout.hold l.layout l.size)
      (NamedHeaderStands g.L.Layout.CODING.sync g.L.Layout.CODING.sync_cells (g.L.Layout.header_end l.layout) (g.L.Layout.names l.layout)) l.frame place bytes;
}

abbrev pub decreases-loop-start : goal.decreases-loop-start
decreases-loop-start g l = l.end - l.start

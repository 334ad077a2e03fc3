use Rattle.cell_bits.specs.inside.Window.{AreCandidates, IsJoined, IsRest}
use Rattle.cell_bits.proofs.cells.search.candidates.Given as goal

abbrev pub invariant-loop-offset : goal.invariant-loop-offset
invariant-loop-offset l = record {
  places : AreCandidates l.high l.low l.word l.count l.offset l.places;
  cells : IsJoined l.high l.low l.offset l.cells;
  behind : IsRest l.low l.offset l.behind;
}

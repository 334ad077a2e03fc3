use Rattle.apple_gcr.proofs.Bytes.{AreTaken}
use Rattle.apple_gcr.proofs.six_and_two.take_bytes.Given as goal

abbrev pub invariant-loop-index : goal.invariant-loop-index
invariant-loop-index l = AreTaken l.values l.bytes l.index

abbrev pub invariant-loop-index-2 : goal.invariant-loop-index-2
invariant-loop-index-2 l = AreTaken l.values l.bytes l.index

abbrev pub invariant-loop-index-3 : goal.invariant-loop-index-3
invariant-loop-index-3 l = AreTaken l.values l.bytes l.index

use Rattle.dump_turns.proofs.Turning.{MeasuredTo}
use Rattle.dump_turns.proofs.measuring.measure.Given as goal

abbrev pub invariant-loop-turn : goal.invariant-loop-turn
invariant-loop-turn l = MeasuredTo l.flux.indexes l.turn l.least l.greatest

use Rattle.std.proofs.Common.{false, ◌-◌, ◌≤◌, max, length}
use Rattle.std.specs.Io.KnownBytes.{Appends}
use Rattle.flux_base.specs.Counts.{Counts}
use Rattle.flux_base.specs.World.{sink_counts}
use Rattle.flux_cli.specs.Turns.{turn_lines}
use Rattle.flux_cli.proofs.turns.write_turn_lines.Given as goal

abbrev pub invariant-loop-turn : goal.invariant-loop-turn
invariant-loop-turn g l =
    Appends (g.W.Sink.written l.initial.sink) (g.W.Sink.written l.sink) (turn_lines l.flux.indexes (l.turn - 1))
    × (l.turn ≤ max 1 (length l.flux.indexes))
    × Counts false (sink_counts g.W.Sink l.initial.sink) (sink_counts g.W.Sink l.sink)

use Rattle.std.proofs.Common.{◌≤◌, ◌+◌, ◌*◌}
use Rattle.index_turns.specs.Track.{KeepsRoom}
use Rattle.flux_trial.specs.inside.Turning.{HasTurned}
use Rattle.flux_trial.proofs.flux.turn_over.Given as goal

abbrev pub invariant-loop-turn : goal.invariant-loop-turn
invariant-loop-turn l = record {
  turned : HasTurned (record { seed = l.seed; track = l.track; nominal = l.nominal }) l.ring.cells l.turn l.head l.flux.times l.flux.indexes;
  room : KeepsRoom l.fn.flux l.flux;
  spare : l.fn.flux.spare_times ≤ l.flux.spare_times + l.quarter + l.turn * l.cells;
  spare_indexes : l.fn.flux.spare_indexes ≤ l.flux.spare_indexes + 1 + l.turn;
}

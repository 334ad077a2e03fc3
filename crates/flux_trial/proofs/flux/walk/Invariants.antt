use Rattle.std.proofs.Common.{◌≡◌, ◌<◌, ◌≤◌, ◌+◌, ◌-◌, ◌*◌, ◌++◌}
use Rattle.index_turns.specs.Track.{KeepsRoom}
use Rattle.flux_trial.specs.inside.Heads.{AreBefore, IsSound, passed_all, reach, seen_times}
use Rattle.flux_trial.proofs.flux.walk.Given as goal
use Rattle.flux_writer.specs.lemmas.FoundOnes.{ones_between}

abbrev pub invariant-loop-one : goal.invariant-loop-one
invariant-loop-one l = record {
  from : l.part.from ≤ l.place;
  to : l.place ≤ l.part.to;
  head : l.head ≡ passed_all l.initial.head (ones_between l.ring.cells l.part.from l.place l.part.number);
  times : l.flux.times ≡ l.initial.flux.times
      ++ seen_times l.hole l.initial.head (ones_between l.ring.cells l.part.from l.place l.part.number);
  indexes : l.flux.indexes ≡ l.initial.flux.indexes;
  sound : IsSound l.head;
  later : l.head.cell < l.part.number + (l.place - l.part.from);
  before : AreBefore l.head l.flux.times;
  reach : reach l.initial.head l.part.number + 1024 * (l.place - l.part.from)
      ≤ reach l.head (l.part.number + (l.place - l.part.from));
  room : KeepsRoom l.initial.flux l.flux;
  spare : l.initial.flux.spare_times ≤ l.flux.spare_times + (l.place - l.part.from);
  spare_indexes : l.flux.spare_indexes ≡ l.initial.flux.spare_indexes;
}

abbrev pub decreases-loop-one : goal.decreases-loop-one
decreases-loop-one l = l.part.to - l.place

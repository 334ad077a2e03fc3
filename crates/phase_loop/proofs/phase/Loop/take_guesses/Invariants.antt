use Rattle.std.proofs.Common.{◌≡◌, ◌≤◌, ◌*◌, length}
use Rattle.phase_loop.specs.inside.Stretch.{AreGuessed, TakesRuns}
use Rattle.phase_loop.proofs.phase.Loop.take_guesses.Given as goal

abbrev pub invariant-loop-taken : goal.invariant-loop-taken
invariant-loop-taken l = record {
  whole : length l.counts ≡ 2112;
  guesses : AreGuessed l.most l.counts;
  stretch : TakesRuns l.times l.last l.taken l.self l.stand l.counts;
}

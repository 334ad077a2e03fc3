use Rattle.std.proofs.Common.{false, refl}
use Rattle.flux_cli.proofs.Blaming.{memoryless, no-shelf, run-of-source}
use Rattle.flux_cli.proofs.Ended.{trial-ended}
use Rattle.flux_cli.proofs.EndingLaws.{written-blame}
use Rattle.flux_cli.proofs.Runs.{out_of_memory}
use Rattle.flux_cli.specs.TrialWork.{trial_work}
use Rattle.flux_cli.specs.Blamed.{nothing}
use Rattle.flux_cli.proofs.task.TrialTask.run.Goals as goal

pub returns-in-Ok-clause-did : goal.returns-in-Ok-clause-did
returns-in-Ok-clause-did g c =
    let task = c.args.self.now in
    let e = rw c.in-Ok.ensures at c.run_trial.ensures in (
      rw c.end_of_writing.ensures (trial-ended _ _ task.format task.seed e.0 e.1 c.run_trial.result e.2),
      refl,
      refl,
    )

pub returns-in-Err-clause-did : goal.returns-in-Err-clause-did
returns-in-Err-clause-did g c = (out_of_memory (trial_work c.args.self.now.format c.args.self.now.seed) tt _, refl, refl)

pub returns-in-Ok-clause-counts : goal.returns-in-Ok-clause-counts
returns-in-Ok-clause-counts g c =
    run-of-source false nothing c.end_of_writing.result (no-shelf (returns-in-Ok-clause-did g c).0 (λ never. never))
    (rw c.end_of_writing.ensures (written-blame c.run_trial.result c.run_trial.ensures.2.counts))

pub returns-in-Err-clause-counts : goal.returns-in-Err-clause-counts
returns-in-Err-clause-counts g c = memoryless false nothing _ _ _ _ _

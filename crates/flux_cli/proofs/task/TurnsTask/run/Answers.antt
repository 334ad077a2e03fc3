use Rattle.std.proofs.Common.{false, refl}
use Rattle.flux_cli.proofs.Blaming.{memoryless, no-shelf, run-of-source}
use Rattle.flux_cli.proofs.Runs.{out_of_memory}
use Rattle.flux_cli.specs.TurnsWork.{turns_work}
use Rattle.flux_cli.specs.Blamed.{nothing}
use Rattle.flux_cli.proofs.task.TurnsTask.run.Goals as goal

pub returns-in-Ok-clause-did : goal.returns-in-Ok-clause-did
returns-in-Ok-clause-did g c = (c.print_turns.ensures.does, refl, refl)

pub returns-in-Err-clause-did : goal.returns-in-Err-clause-did
returns-in-Err-clause-did g c = (out_of_memory turns_work tt _, refl, refl)

pub returns-in-Ok-clause-counts : goal.returns-in-Ok-clause-counts
returns-in-Ok-clause-counts g c = run-of-source false nothing c.print_turns.result (no-shelf c.print_turns.ensures.does (λ never. never)) c.print_turns.ensures.blames

pub returns-in-Err-clause-counts : goal.returns-in-Err-clause-counts
returns-in-Err-clause-counts g c = memoryless false nothing _ _ _ _ _

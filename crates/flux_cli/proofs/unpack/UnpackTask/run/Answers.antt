use Rattle.std.proofs.Common.{true, inl, inr, refl}
use Rattle.flux_cli.proofs.Blaming.{memoryless}
use Rattle.flux_cli.specs.Blamed.{files}
use Rattle.flux_cli.proofs.unpack.UnpackTask.run.Goals as goal

pub returns-in-Ok-clause-did : goal.returns-in-Ok-clause-did
returns-in-Ok-clause-did g c = (inr (rw (c.bytes-file.ensures, c.bytes-folder.ensures) at c.sum_and_unpack.ensures.did), refl, refl)

pub returns-in-Err-clause-did : goal.returns-in-Err-clause-did
returns-in-Err-clause-did g c = (inl (refl, refl), refl, refl)

pub returns-in-Ok-clause-counts : goal.returns-in-Ok-clause-counts
returns-in-Ok-clause-counts g c = c.sum_and_unpack.ensures.counts _ _

pub returns-in-Err-clause-counts : goal.returns-in-Err-clause-counts
returns-in-Err-clause-counts g c = memoryless true files _ _ _ _ _

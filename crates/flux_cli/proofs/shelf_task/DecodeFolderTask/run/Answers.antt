use Rattle.std.proofs.Common.{false, inl, inr, refl}
use Rattle.flux_cli.proofs.Blaming.{memoryless, run-of-shelf}
use Rattle.flux_cli.specs.Blamed.{nothing}
use Rattle.flux_cli.proofs.shelf_task.DecodeFolderTask.run.Goals as goal

pub returns-in-Ok-clause-did : goal.returns-in-Ok-clause-did
returns-in-Ok-clause-did g c = (inr (rw c.bytes.ensures at c.decode_folder.ensures.did), refl, refl)

pub returns-in-Err-clause-did : goal.returns-in-Err-clause-did
returns-in-Err-clause-did g c = (inl (refl, refl), refl, refl)

pub returns-in-Ok-clause-counts : goal.returns-in-Ok-clause-counts
returns-in-Ok-clause-counts g c =
    run-of-shelf false c.decode_folder.result c.decode_folder.ensures.no_source
    (record { shelf = c.decode_folder.ensures.blames.source; image = c.decode_folder.ensures.blames.image; notes = c.decode_folder.ensures.blames.notes })

pub returns-in-Err-clause-counts : goal.returns-in-Err-clause-counts
returns-in-Err-clause-counts g c = memoryless false nothing _ _ _ _ _

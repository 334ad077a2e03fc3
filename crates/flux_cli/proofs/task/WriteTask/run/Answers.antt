use Rattle.std.proofs.Common.{refl, false}
use Rattle.flux_engine.specs.Rings.{streams_of}
use Rattle.flux_cli.proofs.Blaming.{CountsBy-noteless, memoryless, no-shelf, run-of-source}
use Rattle.flux_cli.proofs.Ended.{image-ended}
use Rattle.flux_cli.proofs.EndingLaws.{ends-blame, image-blame}
use Rattle.flux_cli.proofs.ImagesRun.{image-reads}
use Rattle.flux_cli.proofs.Runs.{out_of_memory}
use Rattle.flux_cli.specs.Blamed.{source_blame}
use Rattle.flux_cli.specs.ImagesWork.{write_work}
use Rattle.flux_cli.specs.Blamed.{nothing}
use Rattle.flux_cli.proofs.task.WriteTask.run.Goals as goal

pub returns-in-Ok-clause-did : goal.returns-in-Ok-clause-did
returns-in-Ok-clause-did g c =
    let format = c.args.self.now.format in
    let e = c.write_disk.ensures in (
      image-ended _ _ _ c.end_of_image.result _ (streams_of format) format
          (λ x told. image-reads format (rw c.in-Ok.ensures at e.needed)) c.write_disk.result (rw c.in-Ok.ensures at e.wrote) e.cause c.end_of_image.ensures,
      refl,
      refl,
    )

pub returns-in-Err-clause-did : goal.returns-in-Err-clause-did
returns-in-Err-clause-did g c = (out_of_memory (write_work c.args.self.now.format) tt _, refl, refl)

pub returns-in-Ok-clause-counts : goal.returns-in-Ok-clause-counts
returns-in-Ok-clause-counts g c =
    run-of-source false nothing c.end_of_image.result (no-shelf (returns-in-Ok-clause-did g c).0 (λ never. never))
    (ends-blame source_blame refl refl _ c.end_of_image.result _ _ (image-blame c.write_disk.result (CountsBy-noteless _ _ c.write_disk.ensures.blames)) c.end_of_image.ensures)

pub returns-in-Err-clause-counts : goal.returns-in-Err-clause-counts
returns-in-Err-clause-counts g c = memoryless false nothing _ _ _ _ _

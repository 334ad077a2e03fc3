use Rattle.std.proofs.Common.{◌∙◌, refl, false}
use Rattle.g64_image.specs.Layout.{g64_file}
use Rattle.flux_cli.proofs.Blaming.{CountsBy-noteless, memoryless, no-shelf, run-of-source}
use Rattle.flux_cli.proofs.Ended.{image-ended}
use Rattle.flux_cli.proofs.EndingLaws.{ends-blame, image-blame}
use Rattle.flux_cli.proofs.ImagesRun.{image-reads}
use Rattle.flux_cli.proofs.Runs.{out_of_memory}
use Rattle.flux_cli.specs.Blamed.{source_blame}
use Rattle.flux_words.specs.G64Disks.{format_of}
use Rattle.flux_cli.specs.G64Work.{to_g64_work}
use Rattle.flux_cli.specs.Blamed.{nothing}
use Rattle.flux_cli.proofs.task.ToG64Task.run.Goals as goal

pub returns-in-Ok-clause-did : goal.returns-in-Ok-clause-did
returns-in-Ok-clause-did g c =
    let format = format_of c.args.self.now.disk in
    let is = c.in-Ok.ensures ∙ c.format.ensures.value in
    let e = c.to_g64.ensures in (
      image-ended _ _ _ c.end_of_image.result _ (g64_file format) format
          (λ x told. image-reads format (rw is at e.needed)) c.to_g64.result (rw is at e.wrote) e.cause c.end_of_image.ensures,
      refl,
      refl,
    )

pub returns-in-Err-clause-did : goal.returns-in-Err-clause-did
returns-in-Err-clause-did g c = (out_of_memory (to_g64_work (format_of c.args.self.now.disk)) tt _, refl, refl)

pub returns-in-Ok-clause-counts : goal.returns-in-Ok-clause-counts
returns-in-Ok-clause-counts g c =
    run-of-source false nothing c.end_of_image.result (no-shelf (returns-in-Ok-clause-did g c).0 (λ never. never))
    (ends-blame source_blame refl refl _ c.end_of_image.result _ _ (image-blame c.to_g64.result (CountsBy-noteless _ _ c.to_g64.ensures.blames)) c.end_of_image.ensures)

pub returns-in-Err-clause-counts : goal.returns-in-Err-clause-counts
returns-in-Err-clause-counts g c = memoryless false nothing _ _ _ _ _

use Rattle.std.proofs.Common.{◌∙◌, refl, false}
use Rattle.flux_cli.proofs.Blaming.{memoryless, no-shelf, run-of-source}
use Rattle.flux_cli.proofs.Ended.{file-ended}
use Rattle.flux_cli.proofs.EndingLaws.{ends-blame, file-blame}
use Rattle.flux_cli.proofs.G64Run.{file-reads}
use Rattle.flux_cli.proofs.Runs.{out_of_memory}
use Rattle.flux_cli.specs.Blamed.{source_blame}
use Rattle.flux_cli.specs.G64Work.{from_g64_work}
use Rattle.flux_words.specs.G64Disks.{format_of}
use Rattle.flux_cli.specs.Blamed.{nothing}
use Rattle.flux_cli.proofs.task.FromG64Task.run.Goals as goal

pub returns-in-Ok-clause-did : goal.returns-in-Ok-clause-did
returns-in-Ok-clause-did g c =
    let is = c.in-Ok.ensures ∙ c.format.ensures.value in
    let e = c.from_g64-answer.ensures in (
      file-ended _ _ _ c.end_of_file.result c.args.self.now.disk c.from_g64-answer.result _ _ e.notes_later (λ x told. file-reads e.needed)
          (rw is at e.read) e.cause c.end_of_file.ensures,
      refl,
      refl,
    )

pub returns-in-Err-clause-did : goal.returns-in-Err-clause-did
returns-in-Err-clause-did g c = (out_of_memory (from_g64_work (format_of c.args.self.now.disk)) tt _, refl, refl)

pub returns-in-Ok-clause-counts : goal.returns-in-Ok-clause-counts
returns-in-Ok-clause-counts g c =
    run-of-source false nothing c.end_of_file.result (no-shelf (returns-in-Ok-clause-did g c).0 (λ never. never))
    (ends-blame source_blame refl refl _ c.end_of_file.result _ _ (file-blame c.from_g64-answer.result c.from_g64-answer.ensures.blames) c.end_of_file.ensures)

pub returns-in-Err-clause-counts : goal.returns-in-Err-clause-counts
returns-in-Err-clause-counts g c = memoryless false nothing _ _ _ _ _

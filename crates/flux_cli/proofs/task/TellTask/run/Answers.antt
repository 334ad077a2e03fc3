use Rattle.std.proofs.Common.{false, refl}
use Rattle.flux_cli.proofs.Blaming.{no-shelf, run-of-source}
use Rattle.flux_cli.proofs.Ended.{page-ended}
use Rattle.flux_cli.proofs.EndingLaws.{written-blame}
use Rattle.flux_cli.specs.Blamed.{nothing}
use Rattle.flux_cli.proofs.task.TellTask.run.Goals as goal

pub returns-clause-did : goal.returns-clause-did
returns-clause-did g c = (rw c.end_of_writing.ensures (page-ended _ _ c.args.self.now.page c.write_page.result c.write_page.ensures), refl, refl)

pub returns-clause-counts : goal.returns-clause-counts
returns-clause-counts g c =
    run-of-source false nothing c.end_of_writing.result (no-shelf (returns-clause-did g c).0 (λ never. never)) (rw c.end_of_writing.ensures (written-blame c.write_page.result c.write_page.ensures.counts))

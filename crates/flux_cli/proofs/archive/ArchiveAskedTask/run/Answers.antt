use Rattle.std.proofs.Common.{◌≤◌, length, arith, refl, subst, sym}
use Rattle.disk_archive.specs.Finding.{Asked}
use Rattle.flux_cli.proofs.Archiving.{keeping-counts}
use Rattle.flux_cli.proofs.archive.ArchiveAskedTask.run.Goals as goal

-- there are no more dumps than a call takes
pub archive-answer-requires : goal.archive-answer-requires
archive-answer-requires g c =
    let most = c.requires.most in
    record { few = subst (λ (asked : Asked). length asked.dumps ≤ 16) (sym c.kept_asked-asked.ensures) (omega (arith, most)) }

pub returns-clause-did : goal.returns-clause-did
returns-clause-did g c =
    let kept = c.archive-answer in (
      record {
        answer = kept.result;
        says = rw c.kept_asked-asked.ensures at kept.ensures.says;
        shelf = kept.ensures.shelf;
        blames = kept.ensures.blames;
        ends = c.end_of_keeping.ensures;
      },
      refl,
    )

pub returns-clause-counts : goal.returns-clause-counts
returns-clause-counts g c =
    let kept = c.archive-answer in
    keeping-counts _ _ _ _ _ _ _ _ _ _ _ kept.result c.end_of_keeping.result kept.ensures.shelf kept.ensures.blames c.end_of_keeping.ensures

use Rattle.std.proofs.Common.{false, true, [], refl, subst}
use Rattle.flux_cli.proofs.EndingLaws.{dumps-blame, shelf-over-shelf}
use Rattle.flux_cli.proofs.SectorRun.{in_sector_room, sector-answers, sector-done, sector-failed}
use Rattle.flux_cli.proofs.ShelfEnded.{ends-over, shelf-ended}
use Rattle.flux_cli.specs.AskedDisks.{shown_sector}
use Rattle.flux_cli.specs.SectorRuns.{sector_status, sector_work}
use Rattle.flux_words.specs.SectorWords.{asked_sector}
use Rattle.sector_copies.specs.Shown.{SectorAsked}
use Rattle.dump_reading.specs.lemmas.Coming.{none-failed}
use Rattle.flux_cli.proofs.Blaming.{memoryless, run-of-shelf}
use Rattle.flux_cli.specs.ShelfWork.{ends_over_shelf}
use Rattle.flux_cli.specs.Blamed.{nothing}
use Rattle.flux_cli.proofs.shelf_task.ShowAskedTask.run.Goals as goal

pub returns-in-Ok-clause-did : goal.returns-in-Ok-clause-did
returns-in-Ok-clause-did g c =
    let room = c.in-Ok.room in
    let mine = shown_sector (asked_sector c.args.self.now) in
    let asked : SectorAsked = record { disk = record mine.disk { format = room.format }; number = room.number; sector = room.known.sector; alone = mine.alone } in
    let answer = c.show_sector-answer in
    let failed = sector-failed asked _ _ _ _ answer.result answer.ensures.says in (
      in_sector_room mine.disk mine.number mine.sector mine.alone mine.disk.format room c.end_of_sector.result _ _ c.in-Ok.ensures
          (record {
            answer = shelf-over-shelf _ _ c.end_of_sector.result _ _ sector_status sector-done answer.result c.end_of_sector.ensures;
            says = shelf-ended (sector_work asked) asked.disk.dumps _ _ _ _ _ c.end_of_sector.result sector_status sector-done answer.result
                (sector-answers asked _ _ _ _ answer.result answer.ensures.says) failed.often failed.fails failed.many answer.ensures.blames
                (ends-over _ _ asked.disk.dumps sector_status answer.result c.end_of_sector.result _ _ failed.paths failed.told c.end_of_sector.ensures);
            keeps = (failed.paths, failed.told);
          }),
      refl,
      refl,
    )

pub returns-in-Ok-clause-counts : goal.returns-in-Ok-clause-counts
returns-in-Ok-clause-counts g c =
    let room = c.in-Ok.room in
    let mine = shown_sector (asked_sector c.args.self.now) in
    let asked : SectorAsked = record { disk = record mine.disk { format = room.format }; number = room.number; sector = room.known.sector; alone = mine.alone } in
    let answer = c.show_sector-answer in
    let failed = sector-failed asked _ _ _ _ answer.result answer.ensures.says in
    run-of-shelf true c.end_of_sector.result
    (λ same. subst ends_over_shelf same (shelf-over-shelf _ _ c.end_of_sector.result _ _ sector_status sector-done c.show_sector-answer.result c.end_of_sector.ensures))
    (dumps-blame _ _ sector_status sector-done failed.often failed.many c.end_of_sector.result _ _ answer.result failed.fails answer.ensures.blames c.end_of_sector.ensures)

pub returns-in-Err-clause-did : goal.returns-in-Err-clause-did
returns-in-Err-clause-did g c = (record { answer = tt; says = refl; keeps = ([], none-failed _) }, refl, refl)

pub returns-in-Err-clause-counts : goal.returns-in-Err-clause-counts
returns-in-Err-clause-counts g c = memoryless true nothing _ _ _ _ _

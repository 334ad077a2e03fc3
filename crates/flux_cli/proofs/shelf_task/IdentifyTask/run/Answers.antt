use Rattle.std.proofs.Common.{false, true, [], ◌∷◌, refl, subst}
use Rattle.flux_cli.proofs.Blaming.{CountsBy-noteless, memoryless, run-of-shelf}
use Rattle.flux_cli.proofs.EndingLaws.{dumps-blame, shelf-over-shelf}
use Rattle.flux_cli.proofs.IdentityRun.{identity-answers, identity-done, identity-failed}
use Rattle.flux_cli.proofs.ShelfEnded.{ends-over, shelf-ended}
use Rattle.flux_cli.specs.IdentityRuns.{identity_status, identity_work}
use Rattle.dump_reading.specs.lemmas.Coming.{none-failed}
use Rattle.flux_cli.specs.ShelfWork.{ends_over_shelf}
use Rattle.flux_cli.specs.Blamed.{nothing}
use Rattle.flux_cli.proofs.shelf_task.IdentifyTask.run.Goals as goal

pub returns-in-Ok-clause-did : goal.returns-in-Ok-clause-did
returns-in-Ok-clause-did g c =
    let dump = c.args.self.now.dump.now in
    let answer = c.identify-answer in
    let failed = identity-failed dump _ _ _ _ answer.result answer.ensures.says in (
      record {
        answer = shelf-over-shelf _ _ c.end_of_identity.result _ _ identity_status identity-done answer.result c.end_of_identity.ensures;
        says = shelf-ended (identity_work dump) (dump ∷ []) _ _ _ _ _ c.end_of_identity.result identity_status identity-done answer.result
            (identity-answers dump _ _ _ _ answer.result answer.ensures.says refl) failed.often failed.fails failed.many (CountsBy-noteless _ _ answer.ensures.blames)
            (ends-over _ _ (dump ∷ []) identity_status answer.result c.end_of_identity.result _ _ failed.paths failed.told (rw c.from_ref.ensures.value at c.end_of_identity.ensures));
        keeps = (failed.paths, failed.told);
      },
      refl,
      refl,
    )

pub returns-in-Ok-clause-counts : goal.returns-in-Ok-clause-counts
returns-in-Ok-clause-counts g c =
    let answer = c.identify-answer in
    let failed = identity-failed c.args.self.now.dump.now _ _ _ _ answer.result answer.ensures.says in
    run-of-shelf true c.end_of_identity.result
    (λ same. subst ends_over_shelf same (shelf-over-shelf _ _ c.end_of_identity.result _ _ identity_status identity-done c.identify-answer.result c.end_of_identity.ensures))
    (dumps-blame _ _ identity_status identity-done failed.often failed.many c.end_of_identity.result _ _ answer.result failed.fails (CountsBy-noteless _ _ answer.ensures.blames) c.end_of_identity.ensures)

pub returns-in-Err-clause-did : goal.returns-in-Err-clause-did
returns-in-Err-clause-did g c = (record { answer = tt; says = refl; keeps = ([], none-failed _) }, refl, refl)

pub returns-in-Err-clause-counts : goal.returns-in-Err-clause-counts
returns-in-Err-clause-counts g c = memoryless true nothing _ _ _ _ _

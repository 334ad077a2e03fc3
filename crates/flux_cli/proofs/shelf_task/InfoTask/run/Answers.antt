use Rattle.std.proofs.Common.{true, [], ◌∷◌, refl}
use Rattle.dump_reading.specs.lemmas.Coming.{none-failed}
use Rattle.flux_base.specs.World.{sink_at}
use Rattle.flux_base.specs.declared.status.Status.TheVariants.{NotesFault}
use Rattle.flux_cli.proofs.Blaming.{CountsBy-noteless, memoryless, run-of-shelf}
use Rattle.flux_cli.proofs.EndingLaws.{dumps-blame, shelf-over-shelf}
use Rattle.flux_cli.proofs.InfoRun.{info-answers, info-done, info-failed}
use Rattle.flux_cli.proofs.NotedRun.{no-memory, no-unread, noted-counts, noted-cut, noted-cut-counts, noted-done, notes-unread}
use Rattle.flux_cli.proofs.ShelfEnded.{ends-over, shelf-ended}
use Rattle.flux_cli.specs.Blamed.{nothing}
use Rattle.flux_cli.specs.InfoRuns.{IsOutcomeOfInfo, info_cut, info_status, info_work}
use Rattle.flux_cli.specs.NotedWork.{noted_status}
use Rattle.flux_cli.specs.World.{on_shelf_at, shelf_input}
use Rattle.flux_cli.proofs.shelf_task.InfoTask.run.Goals as goal

-- what is told behind the notes
pub returns-in-Ok-note_dumps-clause-did : goal.returns-in-Ok-note_dumps-clause-did
returns-in-Ok-note_dumps-clause-did g c =
    let dump = c.args.self.now.dump.now in
    let answer = c.tell_turns-answer in
    let status = c.end_of_info-status in
    let failed = info-failed dump _ _ _ _ answer.result answer.ensures.says in
    let before = on_shelf_at g.H.Source g.H.Shelf g.W.Sink g.N.Sink c.args.shelf.now c.args.image.now c.args.notes.now in
    let shelf = shelf_input g.H.Source g.H.Shelf c.note_dumps.new.shelf in
    let notes = sink_at g.N.Sink c.note_dumps.new.notes in
    let after = on_shelf_at g.H.Source g.H.Shelf g.W.Sink g.N.Sink answer.new.shelf answer.new.lines status.new.notes in (
      rw c.noted_status.ensures
          (noted-done (dump ∷ []) before shelf notes refl refl (IsOutcomeOfInfo dump) (info_cut dump) after c.in-Ok-note_dumps.failed (rw c.from_ref.ensures.value at c.in-Ok-note_dumps.ensures) status.result
          (no-memory _ _ info_status info-done answer.result status.result _ _ status.ensures) failed.many.later
          (record {
            answer = shelf-over-shelf _ _ status.result _ _ info_status info-done answer.result status.ensures;
            says = shelf-ended (info_work dump) (dump ∷ []) _ _ _ _ _ status.result info_status info-done answer.result
                (info-answers dump _ _ _ _ answer.result answer.ensures.says refl) failed.often failed.fails failed.many (CountsBy-noteless _ _ answer.ensures.blames)
                (ends-over _ _ (dump ∷ []) info_status answer.result status.result _ _ failed.paths failed.told (rw c.from_ref-in-Ok-note_dumps.ensures.value at status.ensures));
            keeps = (failed.paths, failed.told);
          })),
      refl,
      refl,
    )

pub returns-in-Err-note_dumps-clause-did : goal.returns-in-Err-note_dumps-clause-did
returns-in-Err-note_dumps-clause-did g c =
    let dump = c.args.self.now.dump.now in
    let before = on_shelf_at g.H.Source g.H.Shelf g.W.Sink g.N.Sink c.args.shelf.now c.args.image.now c.args.notes.now in
    let shelf = shelf_input g.H.Source g.H.Shelf c.note_dumps.new.shelf in
    let notes = sink_at g.N.Sink c.note_dumps.new.notes in
    (noted-cut (dump ∷ []) before shelf notes refl refl (info_work dump) _ (rw c.from_ref.ensures.value at c.in-Err-note_dumps.ensures), refl, refl)

pub returns-in-Err-clause-did : goal.returns-in-Err-clause-did
returns-in-Err-clause-did g c = (record { answer = tt; says = refl; keeps = ([], none-failed _) }, refl, refl)

pub returns-in-Ok-note_dumps-clause-counts : goal.returns-in-Ok-note_dumps-clause-counts
returns-in-Ok-note_dumps-clause-counts g c =
    let dump = c.args.self.now.dump.now in
    let answer = c.tell_turns-answer in
    let status = c.end_of_info-status in
    let failed = info-failed dump _ _ _ _ answer.result answer.ensures.says in
    let over = shelf-over-shelf _ _ status.result _ _ info_status info-done answer.result status.ensures in
    let before = on_shelf_at g.H.Source g.H.Shelf g.W.Sink g.N.Sink c.args.shelf.now c.args.image.now c.args.notes.now in
    let shelf = shelf_input g.H.Source g.H.Shelf c.note_dumps.new.shelf in
    let notes = sink_at g.N.Sink c.note_dumps.new.notes in
    let after = on_shelf_at g.H.Source g.H.Shelf g.W.Sink g.N.Sink answer.new.shelf answer.new.lines status.new.notes in
    rw c.noted_status.ensures
    (run-of-shelf true (noted_status c.in-Ok-note_dumps.failed status.result) (no-unread c.in-Ok-note_dumps.failed status.result over)
    (noted-counts (dump ∷ []) before shelf notes refl refl (IsOutcomeOfInfo dump) (info_cut dump) after c.in-Ok-note_dumps.failed (rw c.from_ref.ensures.value at c.in-Ok-note_dumps.ensures) status.result
    (no-memory _ _ info_status info-done answer.result status.result _ _ status.ensures) over
    (dumps-blame _ _ info_status info-done failed.often failed.many status.result _ _ answer.result failed.fails (CountsBy-noteless _ _ answer.ensures.blames) status.ensures)))

pub returns-in-Err-note_dumps-clause-counts : goal.returns-in-Err-note_dumps-clause-counts
returns-in-Err-note_dumps-clause-counts g c =
    let dump = c.args.self.now.dump.now in
    let before = on_shelf_at g.H.Source g.H.Shelf g.W.Sink g.N.Sink c.args.shelf.now c.args.image.now c.args.notes.now in
    let shelf = shelf_input g.H.Source g.H.Shelf c.note_dumps.new.shelf in
    let notes = sink_at g.N.Sink c.note_dumps.new.notes in
    run-of-shelf true NotesFault notes-unread (noted-cut-counts (dump ∷ []) before shelf notes refl refl _ (rw c.from_ref.ensures.value at c.in-Err-note_dumps.ensures))

pub returns-in-Err-clause-counts : goal.returns-in-Err-clause-counts
returns-in-Err-clause-counts g c = memoryless true nothing _ _ _ _ _

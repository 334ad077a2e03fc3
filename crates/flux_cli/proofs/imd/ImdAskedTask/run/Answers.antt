use Rattle.std.proofs.Common.{true, [], refl}
use Rattle.dump_reading.specs.lemmas.Coming.{none-failed}
use Rattle.flux_base.specs.World.{sink_at}
use Rattle.flux_base.specs.declared.status.Status.TheVariants.{NotesFault}
use Rattle.flux_cli.proofs.Blaming.{memoryless, run-of-shelf}
use Rattle.flux_cli.proofs.EndingLaws.{dumps-blame, shelf-over-shelf}
use Rattle.flux_cli.proofs.ImdRun.{imd-answers, imd-done, imd-failed}
use Rattle.flux_cli.proofs.NotedRun.{no-memory, no-unread, noted-counts, noted-cut, noted-cut-counts, noted-done, notes-unread}
use Rattle.flux_cli.proofs.ShelfEnded.{ends-over, shelf-ended}
use Rattle.flux_cli.specs.Blamed.{nothing}
use Rattle.flux_cli.specs.ImdRuns.{IsOutcomeOfImd, imd_cut, imd_status, imd_work}
use Rattle.flux_cli.specs.NotedWork.{noted_status}
use Rattle.flux_cli.specs.World.{on_shelf_at, shelf_input}
use Rattle.imd_image.specs.Outcomes.{DumpsAsked}
use Rattle.flux_cli.proofs.imd.ImdAskedTask.run.Goals as goal

-- what is told behind the notes
pub returns-in-Ok-note_dumps-clause-did : goal.returns-in-Ok-note_dumps-clause-did
returns-in-Ok-note_dumps-clause-did g c =
    let asked : DumpsAsked = record { stepping = c.args.self.now.stepping; names = c.args.self.now.dumps.now } in
    let answer = c.write_imd-answer in
    let status = c.end_of_imd-status in
    let failed = imd-failed asked _ _ _ _ _ _ answer.result answer.ensures.says in
    let before = on_shelf_at g.H.Source g.H.Shelf g.W.Sink g.N.Sink c.args.shelf.now c.args.image.now c.args.notes.now in
    let shelf = shelf_input g.H.Source g.H.Shelf c.note_dumps.new.shelf in
    let notes = sink_at g.N.Sink c.note_dumps.new.notes in
    let after = on_shelf_at g.H.Source g.H.Shelf g.W.Sink g.N.Sink answer.new.shelf answer.new.file status.new.notes in (
      rw c.noted_status.ensures
          (noted-done asked.names before shelf notes refl refl (IsOutcomeOfImd asked) (imd_cut asked) after c.in-Ok-note_dumps.failed c.in-Ok-note_dumps.ensures status.result
          (no-memory _ _ (imd_status asked.stepping) (imd-done asked.stepping) answer.result status.result _ _ status.ensures) failed.many.later
          (record {
            answer = shelf-over-shelf _ _ status.result _ _ (imd_status asked.stepping) (imd-done asked.stepping) answer.result status.ensures;
            says = shelf-ended (imd_work asked) asked.names _ _ _ _ _ status.result (imd_status asked.stepping) (imd-done asked.stepping) answer.result
                (imd-answers asked _ _ _ _ answer.result answer.ensures.says) failed.often failed.fails failed.many answer.ensures.blames
                (ends-over _ _ asked.names (imd_status asked.stepping) answer.result status.result _ _ failed.paths failed.told status.ensures);
            keeps = (failed.paths, failed.told);
          })),
      refl,
      refl,
    )

pub returns-in-Err-note_dumps-clause-did : goal.returns-in-Err-note_dumps-clause-did
returns-in-Err-note_dumps-clause-did g c =
    let asked : DumpsAsked = record { stepping = c.args.self.now.stepping; names = c.args.self.now.dumps.now } in
    let before = on_shelf_at g.H.Source g.H.Shelf g.W.Sink g.N.Sink c.args.shelf.now c.args.image.now c.args.notes.now in
    let shelf = shelf_input g.H.Source g.H.Shelf c.note_dumps.new.shelf in
    let notes = sink_at g.N.Sink c.note_dumps.new.notes in
    (noted-cut asked.names before shelf notes refl refl (imd_work asked) _ c.in-Err-note_dumps.ensures, refl, refl)

pub returns-in-Err-clause-did : goal.returns-in-Err-clause-did
returns-in-Err-clause-did g c = (record { answer = tt; says = refl; keeps = ([], none-failed _) }, refl, refl)

pub returns-in-Ok-note_dumps-clause-counts : goal.returns-in-Ok-note_dumps-clause-counts
returns-in-Ok-note_dumps-clause-counts g c =
    let asked : DumpsAsked = record { stepping = c.args.self.now.stepping; names = c.args.self.now.dumps.now } in
    let answer = c.write_imd-answer in
    let status = c.end_of_imd-status in
    let failed = imd-failed asked _ _ _ _ _ _ answer.result answer.ensures.says in
    let over = shelf-over-shelf _ _ status.result _ _ (imd_status asked.stepping) (imd-done asked.stepping) answer.result status.ensures in
    let before = on_shelf_at g.H.Source g.H.Shelf g.W.Sink g.N.Sink c.args.shelf.now c.args.image.now c.args.notes.now in
    let shelf = shelf_input g.H.Source g.H.Shelf c.note_dumps.new.shelf in
    let notes = sink_at g.N.Sink c.note_dumps.new.notes in
    let after = on_shelf_at g.H.Source g.H.Shelf g.W.Sink g.N.Sink answer.new.shelf answer.new.file status.new.notes in
    rw c.noted_status.ensures
    (run-of-shelf true (noted_status c.in-Ok-note_dumps.failed status.result) (no-unread c.in-Ok-note_dumps.failed status.result over)
    (noted-counts asked.names before shelf notes refl refl (IsOutcomeOfImd asked) (imd_cut asked) after c.in-Ok-note_dumps.failed c.in-Ok-note_dumps.ensures status.result
    (no-memory _ _ (imd_status asked.stepping) (imd-done asked.stepping) answer.result status.result _ _ status.ensures) over
    (dumps-blame _ _ (imd_status asked.stepping) (imd-done asked.stepping) failed.often failed.many status.result _ _ answer.result failed.fails answer.ensures.blames status.ensures)))

pub returns-in-Err-note_dumps-clause-counts : goal.returns-in-Err-note_dumps-clause-counts
returns-in-Err-note_dumps-clause-counts g c =
    let asked : DumpsAsked = record { stepping = c.args.self.now.stepping; names = c.args.self.now.dumps.now } in
    let before = on_shelf_at g.H.Source g.H.Shelf g.W.Sink g.N.Sink c.args.shelf.now c.args.image.now c.args.notes.now in
    let shelf = shelf_input g.H.Source g.H.Shelf c.note_dumps.new.shelf in
    let notes = sink_at g.N.Sink c.note_dumps.new.notes in
    run-of-shelf true NotesFault notes-unread (noted-cut-counts asked.names before shelf notes refl refl _ c.in-Err-note_dumps.ensures)

pub returns-in-Err-clause-counts : goal.returns-in-Err-clause-counts
returns-in-Err-clause-counts g c = memoryless true nothing _ _ _ _ _

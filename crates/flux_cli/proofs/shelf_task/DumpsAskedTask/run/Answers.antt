use Rattle.std.proofs.Common.{true, [], ap, refl}
use Rattle.flux_engine.specs.Room.{RoomState}
use Rattle.flux_words.specs.DumpWords.{asked_dumps}
use Rattle.flux_cli.specs.AskedDisks.{asked_disk}
use Rattle.dump_reading.specs.lemmas.Coming.{none-failed}
use Rattle.flux_cli.proofs.NotedRun.{noted-in-room}
use Rattle.flux_cli.proofs.Blaming.{memoryless, run-of-shelf}
use Rattle.flux_cli.specs.Blamed.{nothing}
use Rattle.flux_cli.proofs.shelf_task.DumpsAskedTask.run.Goals as goal

pub returns-in-Ok-clause-did : goal.returns-in-Ok-clause-did
returns-in-Ok-clause-did g c = (
  noted-in-room c.args.self.now.shown (asked_disk (asked_dumps c.args.self.now)) _ _ c.in-Ok.room.format c.note_and_show.result (ap (λ (room : RoomState). room.format) c.in-Ok.ensures)
      c.note_and_show.ensures.did,
  refl,
  refl,
)

pub returns-in-Ok-clause-counts : goal.returns-in-Ok-clause-counts
returns-in-Ok-clause-counts g c = run-of-shelf true c.note_and_show.result c.note_and_show.ensures.no_source c.note_and_show.ensures.blames

pub returns-in-Err-clause-did : goal.returns-in-Err-clause-did
returns-in-Err-clause-did g c = (record { answer = tt; says = refl; keeps = ([], none-failed _) }, refl, refl)

pub returns-in-Err-clause-counts : goal.returns-in-Err-clause-counts
returns-in-Err-clause-counts g c = memoryless true nothing _ _ _ _ _

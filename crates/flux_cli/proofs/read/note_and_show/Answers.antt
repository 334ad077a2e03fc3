use Rattle.std.proofs.Common.{refl}
use Rattle.dump_reading.specs.Outcomes.{disk_of}
use Rattle.flux_base.specs.World.{sink_at}
use Rattle.flux_cli.proofs.NotedRun.{no-unread, noted-counts, noted-cut, noted-cut-counts, noted-done}
use Rattle.flux_cli.specs.ReadRuns.{IsOutcomeOfDumps, dumps_cut, read_work}
use Rattle.flux_cli.specs.World.{on_shelf_at, shelf_input}
use Rattle.flux_cli.proofs.read.note_and_show.Goals as goal

pub returns-in-Ok-clause-did : goal.returns-in-Ok-clause-did
returns-in-Ok-clause-did g c =
    let shown = c.args.shown in
    let disk = disk_of c.args.dumps.now c.args.room.now.format in
    let before = on_shelf_at g.H.Source g.H.Shelf g.W.Sink g.N.Sink c.args.shelf.now c.args.image.now c.args.notes.now in
    let shelf = shelf_input g.H.Source g.H.Shelf c.note_dumps.new.shelf in
    let notes = sink_at g.N.Sink c.note_dumps.new.notes in
    let status = c.show-status in
    let after = on_shelf_at g.H.Source g.H.Shelf g.W.Sink g.N.Sink status.new.shelf status.new.image status.new.notes in
    rw c.noted_status.ensures
    (noted-done disk.dumps before shelf notes refl refl (IsOutcomeOfDumps shown disk) (dumps_cut shown disk) after c.in-Ok.failed c.in-Ok.ensures status.result status.ensures.no_memory
    status.ensures.blames.shelf.2.later status.ensures.did)

pub returns-in-Err-clause-did : goal.returns-in-Err-clause-did
returns-in-Err-clause-did g c =
    let disk = disk_of c.args.dumps.now c.args.room.now.format in
    let before = on_shelf_at g.H.Source g.H.Shelf g.W.Sink g.N.Sink c.args.shelf.now c.args.image.now c.args.notes.now in
    let shelf = shelf_input g.H.Source g.H.Shelf c.note_dumps.new.shelf in
    let notes = sink_at g.N.Sink c.note_dumps.new.notes in
    noted-cut disk.dumps before shelf notes refl refl (read_work c.args.shown disk) _ c.in-Err.ensures

pub returns-in-Ok-clause-blames : goal.returns-in-Ok-clause-blames
returns-in-Ok-clause-blames g c =
    let shown = c.args.shown in
    let disk = disk_of c.args.dumps.now c.args.room.now.format in
    let before = on_shelf_at g.H.Source g.H.Shelf g.W.Sink g.N.Sink c.args.shelf.now c.args.image.now c.args.notes.now in
    let shelf = shelf_input g.H.Source g.H.Shelf c.note_dumps.new.shelf in
    let notes = sink_at g.N.Sink c.note_dumps.new.notes in
    let status = c.show-status in
    let after = on_shelf_at g.H.Source g.H.Shelf g.W.Sink g.N.Sink status.new.shelf status.new.image status.new.notes in
    rw c.noted_status.ensures
    (noted-counts disk.dumps before shelf notes refl refl (IsOutcomeOfDumps shown disk) (dumps_cut shown disk) after c.in-Ok.failed c.in-Ok.ensures status.result status.ensures.no_memory
    status.ensures.did.answer status.ensures.blames)

pub returns-in-Err-clause-blames : goal.returns-in-Err-clause-blames
returns-in-Err-clause-blames g c =
    let disk = disk_of c.args.dumps.now c.args.room.now.format in
    let before = on_shelf_at g.H.Source g.H.Shelf g.W.Sink g.N.Sink c.args.shelf.now c.args.image.now c.args.notes.now in
    let shelf = shelf_input g.H.Source g.H.Shelf c.note_dumps.new.shelf in
    let notes = sink_at g.N.Sink c.note_dumps.new.notes in
    noted-cut-counts disk.dumps before shelf notes refl refl _ c.in-Err.ensures

pub returns-in-Ok-clause-no_source : goal.returns-in-Ok-clause-no_source
returns-in-Ok-clause-no_source g c = rw c.noted_status.ensures (no-unread c.in-Ok.failed c.show-status.result c.show-status.ensures.did.answer)

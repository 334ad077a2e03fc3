use Rattle.std.specs.Prelude.{◌≡◌, ◌++◌}
use Rattle.std.proofs.Common.{subst}
use Rattle.flux_base.specs.declared.track.TrackId.{TrackId}
use Rattle.index_turns.specs.Track.{TrackState}
use Rattle.flux_engine.specs.Captured.{AreReadingsOf}
use Rattle.flux_engine.specs.LoopProgress.{seen_next}
use Rattle.flux_engine.specs.Plans.{passed_one}
use Rattle.flux_engine.specs.Recordings.{track_at}
use Rattle.flux_engine.specs.declared.plan.Clocks.TheVariants.{Both}
use Rattle.flux_engine.specs.declared.plan.Rule.TheVariants.{Controller}
use Rattle.flux_engine.specs.lemmas.TrackAt.{track_is}
use Rattle.dump_reading.specs.DumpStreams.{GaveOf}
use Rattle.dump_reading.specs.Files.{ShelfNow, shelf_at}
use Rattle.dump_reading.specs.Outcomes.{disk_of}
use Rattle.sector_copies.specs.inside.Notes.{NotesOf}
use Rattle.sector_copies.specs.TrackReadings.{SectorRoomState}
use Rattle.sector_copies.specs.inside.TrackReadings.{HasReadNext}
use Rattle.sector_copies.proofs.reading.read_next.Goals as goal

pub returns-clause-read : goal.returns-clause-read
returns-clause-read g c =
    let inside = c.room.inside in
    let dumps = c.args.dumps.now in
    let start : ShelfNow = shelf_at g.H.Source g.H.Shelf c.args.shelf.now in
    let now : ShelfNow = shelf_at g.H.Source g.H.Shelf c.read-next.new.shelf in
    let next = c.read-next.result in
    let flux = c.read-next.new.stream.flux in
    let tools = c.note_next.new.tools in
    let old : SectorRoomState = record { format = inside.format; number = inside.number; known = inside.tools.notes; passed = inside.tools.passed.items } in
    let new : SectorRoomState = record { format = inside.format; number = inside.number; known = tools.notes; passed = tools.passed.items } in
    let is : c.track_id-track.result ≡ track_at inside.format inside.number =
    track_is inside.format inside.number c.track_id-track.result c.track_id-track.ensures.at in
    let Noted : TrackId → TrackState → Type 0 = λ t f. NotesOf (AreReadingsOf Controller Both inside.format t (seen_next next f).times (seen_next next f).indexes c.args.capture) inside.tools.notes tools.notes in
    let noted = subst (λ (t : TrackId). Noted t flux) is (subst (Noted c.track_id-track.result) c.flux.ensures c.note_next.ensures.noted) in
    let passed = subst (λ (f : TrackState). tools.passed.items ≡ inside.tools.passed.items ++ passed_one c.args.capture (seen_next next f).passed) c.flux.ensures c.note_next.ensures.passed in
    let gave = subst (λ (t : TrackId). GaveOf dumps.stepping dumps.names.now t c.args.capture start now (seen_next next flux)) is c.read-next.ensures.gave in
    let read : HasReadNext (disk_of dumps old.format) old.number c.args.capture start now old new = record { here = seen_next next flux; gave = gave; noted = noted; passed_are = passed } in
    subst (λ (r : SectorRoomState). HasReadNext (disk_of dumps r.format) r.number c.args.capture start now r new) c.room.view_is read

use Rattle.sector_copies.proofs.AsControllers.{has_track_too, noted_by, size_too}
use Rattle.sector_copies.proofs.tools.note_by_clock.Goals as goal

pub returns-clause-noted : goal.returns-clause-noted
returns-clause-noted c =
    noted_by c.args.clock c.args.format c.controller_format.result c.args.track c.args.flux.now.times c.args.flux.now.indexes c.recover_cells.new.cells.cells c.args.capture
    c.args.tools.now.notes.sector c.args.tools.now.notes c.note_cells.new.notes c.recover_cells.ensures.cells c.controller_format.ensures
    (rw c.recording_of-recording.ensures.recording at c.note_cells.ensures.noted)

pub note_cells-requires-clause-track : goal.note_cells-requires-clause-track
note_cells-requires-clause-track c =
    has_track_too c.args.format c.controller_format.result c.args.track c.controller_format.ensures c.recording_of-recording.result c.recording_of-recording.ensures.agrees c.requires.track

pub note_cells-requires-clause-size : goal.note_cells-requires-clause-size
note_cells-requires-clause-size c =
    size_too c.args.format c.controller_format.result c.args.track c.controller_format.ensures c.recording_of-recording.result c.recording_of-recording.ensures.agrees c.requires.track
    c.args.tools.now.notes.book.size c.requires.size

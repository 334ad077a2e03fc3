use Rattle.flux_engine.proofs.AsControllers.{book_too, has_track_too}
use Rattle.flux_engine.proofs.Noting.{has_noted, has_noted_too}
use Rattle.flux_engine.proofs.capture.note_in_cells.Goals as goal

pub returns-in-Strict-clause-noted : goal.returns-in-Strict-clause-noted
returns-in-Strict-clause-noted c =
    rw c.in-Strict.is
    (has_noted c.args.clock c.args.format c.args.track c.args.flux.now.times c.args.flux.now.indexes c.args.cells.now.cells c.args.capture
    c.args.gathered.now.book c.gather.new.book c.args.gathered.now.others c.requires.cells (rw c.recording_of-recording.ensures.recording at c.gather.ensures))

pub returns-in-Controller-clause-noted : goal.returns-in-Controller-clause-noted
returns-in-Controller-clause-noted c =
    rw c.in-Controller.is
    (has_noted_too c.args.clock c.args.format c.controller_format.result c.args.track c.args.flux.now.times c.args.flux.now.indexes c.args.cells.now.cells c.args.capture
    c.args.gathered.now.book c.gather_as_controller.new.gathered.book c.args.gathered.now.others c.gather_as_controller.new.gathered.others
    c.requires.cells c.controller_format.ensures
    (rw c.recording_of-recording-in-Controller.ensures.recording at c.gather_as_controller.ensures.readings)
    (rw c.recording_of-recording-in-Controller.ensures.recording at c.gather_as_controller.ensures.others))

pub gather_as_controller-requires-clause-track : goal.gather_as_controller-requires-clause-track
gather_as_controller-requires-clause-track c =
    has_track_too c.args.format c.controller_format.result c.args.track c.controller_format.ensures c.recording_of-recording-in-Controller.result c.recording_of-recording-in-Controller.ensures.agrees c.requires.track

pub gather_as_controller-requires-clause-book : goal.gather_as_controller-requires-clause-book
gather_as_controller-requires-clause-book c =
    book_too c.args.format c.controller_format.result c.args.track c.controller_format.ensures c.recording_of-recording-in-Controller.result c.recording_of-recording-in-Controller.ensures.agrees c.requires.track
    c.args.gathered.now.book c.requires.book c.requires.knows

use Rattle.flux_engine.proofs.NameWalks.{has_names}
use Rattle.flux_engine.proofs.names.names_in_cells.Goals as goal

pub returns : goal.returns
returns c =
    has_names c.args.clock c.args.format c.controller_format.result c.args.near c.args.flux.now.times c.args.flux.now.indexes c.args.cells.now.cells c.args.capture
    c.args.others.now c.gather_names.new.others c.requires.cells c.controller_format.ensures
    (rw c.recording_of-recording.ensures.recording at c.gather_names.ensures)

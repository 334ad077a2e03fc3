use Rattle.law_written_dumps.proofs.Dumps.{dumps_read, files_capture}
use Rattle.law_written_dumps.proofs.laws.written_dumps_are_read.Goals as goal

pub returns-clause-capture : goal.returns-clause-capture
returns-clause-capture c =
    files_capture c.folder_paths_tell.ensures c.tracks_keep_bounds.ensures.bounds c.sectors_lie_in_images.ensures.numbers c.files_are_captures.ensures

pub returns-clause-well : goal.returns-clause-well
returns-clause-well c =
    dumps_read (files_capture c.folder_paths_tell.ensures c.tracks_keep_bounds.ensures.bounds c.sectors_lie_in_images.ensures.numbers c.files_are_captures.ensures)
    c.captured_dumps_are_read.ensures.well

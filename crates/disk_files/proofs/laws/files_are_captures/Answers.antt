use Rattle.disk_files.proofs.Files.{files_captured}
use Rattle.disk_files.proofs.laws.files_are_captures.Goals as goal

pub returns : goal.returns
returns c =
    files_captured c.texts_are_passed.ensures c.steady_captures_are_recovered.ensures.written c.images_have_rings.ensures c.tracks_keep_bounds.ensures.bounds
    c.sectors_lie_in_images.ensures.numbers c.written_law.ensures.size

use Rattle.law_stated_files.proofs.Files.{files}
use Rattle.law_stated_files.proofs.Fits.{rings_fit}
use Rattle.law_stated_files.proofs.laws.written_files_are_as_stated.Goals as goal

pub returns : goal.returns
returns c = files (rings_fit c.images_have_rings.ensures)

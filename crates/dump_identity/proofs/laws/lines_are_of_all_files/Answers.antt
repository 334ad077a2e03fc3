use Rattle.dump_identity.proofs.AllFiles.{all-files}
use Rattle.dump_identity.proofs.laws.lines_are_of_all_files.Goals as goal

pub returns : goal.returns
returns c = all-files

use Rattle.track_shelf.proofs.Paths.{files-name-dumps, names-are-files, scp-dumps-are-files}
use Rattle.track_shelf.proofs.laws.files_name_dumps.Goals as goal

pub returns-clause-files : goal.returns-clause-files
returns-clause-files c = files-name-dumps

pub returns-clause-names : goal.returns-clause-names
returns-clause-names c = names-are-files

pub returns-clause-scp : goal.returns-clause-scp
returns-clause-scp c = scp-dumps-are-files

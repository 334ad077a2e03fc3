use Rattle.track_shelf.proofs.Paths.{folder-paths-tell}
use Rattle.track_shelf.proofs.laws.folder_paths_tell.Goals as goal

pub returns : goal.returns
returns c = folder-paths-tell

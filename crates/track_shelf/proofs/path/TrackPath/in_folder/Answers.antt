use Rattle.std.proofs.Common.{sym, subst, arith}
use Rattle.std.specs.Str.{IsUtf8}
use Rattle.track_shelf.proofs.Paths.{folder-end-text}
use Rattle.track_shelf.proofs.path.TrackPath.in_folder.Goals as goal

pub invariant_of-result : goal.invariant_of-result
invariant_of-result c = subst IsUtf8 (sym c.folder_end.ensures) (folder-end-text c.args.track (omega arith) (omega arith))

use Rattle.std.proofs.Common.{◌≡◌, ◌≤◌, ◌<◌, ◌+◌, ℕ, false, Some}
use Rattle.std.specs.Option.{is_some}
use Rattle.file_maker.specs.Made.{Made}
use Rattle.track_shelf.specs.Files.{file_of}
use Rattle.scp_unpack.specs.Tracks.{track_of}
use Rattle.scp_unpack.proofs.unpacking.first_there.Given as goal

abbrev pub invariant-loop-number : goal.invariant-loop-number
invariant-loop-number g l = (told : Made) → g.M.FileMaker.made l.maker ≡ Some told → (k : ℕ) → 0 ≤ k → k < 0 + l.number
    → is_some (file_of told.files l.folder (track_of k)) ≡ false

use Rattle.std.proofs.Common.{◌≡◌, ◌≤◌, ◌<◌, ◌+◌, ℕ, false, Some}
use Rattle.std.specs.Option.{is_some}
use Rattle.file_maker.specs.Made.{Made}
use Rattle.track_shelf.specs.Files.{file_of}
use Rattle.stream_files.specs.Streams.{stream_track}
use Rattle.stream_files.proofs.splitting.first_there.Given as goal

abbrev pub invariant-loop-stream : goal.invariant-loop-stream
invariant-loop-stream g l = (told : Made) → g.M.FileMaker.made l.maker ≡ Some told → (k : ℕ) → 0 ≤ k → k < 0 + l.stream
    → is_some (file_of told.files l.folder (stream_track l.heads k)) ≡ false

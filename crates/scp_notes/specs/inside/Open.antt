-- A file that was opened just now.
use Rattle.std.specs.Prelude.{◌≡◌}
use Rattle.flux_base.specs.Counts.{FaultCounts}
use Rattle.track_shelf.specs.Files.{none_yet}

-- a file of a shelf was not called yet
pub record IsFresh (file shelf : FaultCounts) : Type 0 where
  pub sound : file.faults ≡ 0
  pub none_failed : file.failed ≡ none_yet shelf.failed

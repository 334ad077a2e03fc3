-- What stands at a place of the file.
use Rattle.std.specs.Prelude.{◌≡◌, ◌≤◌, ◌<◌, ℕ, ◌*◌, ◌++◌, Bool, true, false, List, [], ◌∷◌, length}
use Rattle.std.specs.Prelude.{take}
use Rattle.flux_base.specs.Counts.{FaultCounts}
use Rattle.scp_files.specs.Captures.{CaptureState, Holds, HoldsStill}
use Rattle.scp_files.specs.Tracks.{words}
use Rattle.scp_files.specs.declared.head.Revolution.{Revolution}
use Rattle.track_shelf.specs.Files.{none_yet}

-- a file of a shelf was not called yet
pub record IsFresh (file shelf : FaultCounts) : Type 0 where
  pub sound : file.faults ≡ 0
  pub none_failed : file.failed ≡ none_yet shelf.failed

-- a revolution was read whose entries are the first of these bytes, or these are too few
abbrev pub ReadsAt : (bytes : List ℕ) → Revolution → (old new : CaptureState) → Bool → Type 0
ReadsAt bytes it old new true =
    (2 * it.entries ≤ length bytes)
    × ((values durations : List ℕ) → Holds values durations old
    → Holds (values ++ words (take (2 * it.entries) bytes)) (durations ++ it.duration ∷ []) new)
ReadsAt bytes it old new false = (length bytes < 2 * it.entries) × HoldsStill old new

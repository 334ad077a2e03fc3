-- How far the reading of a track has come.
use Rattle.std.specs.Prelude.{◌≡◌, ◌<◌, ℕ, false, List, Option}
use Rattle.scp_files.specs.Captures.{CaptureState}
use Rattle.scp_files.specs.Tracks.{end_fault, entries_before, stops_at, whole_count}
use Rattle.scp_files.specs.declared.fault.ScpTrackFault.{ScpTrackFault}
use Rattle.scp_tracks.specs.Tracks.{HoldsFirst}

-- the capture holds the first revolutions, so many, and at none of these the reading ends
pub record HasWalked (revolutions : ℕ) (track : List ℕ) (count : ℕ) (capture : CaptureState)
    : Type 0 where
  pub holds : HoldsFirst track count capture
  pub entries : capture.entries ≡ entries_before track count
  pub goes : (r : ℕ) → r < count → stops_at revolutions track r ≡ false

-- all revolutions were read up to the one at which the reading ends, and it is told why
abbrev pub ReadsRevolutions : (revolutions : ℕ) → (track : List ℕ) → CaptureState
    → Option ScpTrackFault → Type 0
ReadsRevolutions revolutions track capture fault =
    (fault ≡ end_fault revolutions track)
    × HoldsFirst track (whole_count revolutions track) capture

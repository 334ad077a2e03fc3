-- What is read of an SCP file that lies on a shelf: its begin; and a track, up to the first
-- revolution that is not read.
use Rattle.std.specs.Prelude.{◌≡◌, ℕ, cond, List, [], ◌∷◌, is_err, take}
use Rattle.std.specs.Prelude.{Option, Some, None, Result}
use Rattle.flux_base.specs.declared.outside.Failed.{Failed}
use Rattle.track_shelf.specs.Files.{File}
use Rattle.scp_files.specs.Captures.{CaptureState, Holds}
use Rattle.scp_files.specs.Files.{FRONT_SIZE}
use Rattle.scp_files.specs.Tracks.{durations_of, read_count, track_fault, values_of}
use Rattle.scp_files.specs.declared.fault.ScpTrackFault.{ScpTrackFault}
use Rattle.scp_tracks.specs.declared.track.TrackPlace.{TrackPlace}

-- the path of the file, where a call on it failed
abbrev pub lost : {A : Type 0} → (path : List ℕ) → Result A Failed → List (List ℕ)
lost path answer = cond (is_err answer) (path ∷ []) []

-- these bytes are the begin of the file, where there is one
abbrev pub IsBeginOf : Option File → Option (List ℕ) → Type 0
IsBeginOf None None = Unit {0}
IsBeginOf (Some file) (Some begin) = begin ≡ take FRONT_SIZE file.bytes
IsBeginOf _ _ = ⊥

-- the capture holds the first revolutions, so many
abbrev pub HoldsFirst : (track : List ℕ) → (count : ℕ) → CaptureState → Type 0
HoldsFirst track count capture = Holds (values_of track count) (durations_of track count) capture

-- all revolutions of a track were read up to the one at which its reading ends, and it is told why
abbrev pub ReadsTrack : TrackPlace → (track : List ℕ) → CaptureState → Option ScpTrackFault → Type 0
ReadsTrack place track capture fault =
    (fault ≡ track_fault place.revolutions place.number track)
    × HoldsFirst track (read_count place.revolutions place.number track) capture

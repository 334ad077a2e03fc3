-- What the begin of a file and that of a track tell is what the whole tells, and how a track goes on
-- from one revolution to the next.
use Rattle.std.specs.Prelude.{◌≡◌, ◌<◌, ℕ, ◌+◌, ◌++◌, List, [], ◌∷◌, take}
use Rattle.scp_files.specs.Files.{FRONT_SIZE, file_fault, resolution_of}
use Rattle.scp_files.specs.Files.{revolutions_of, track_offset, wanted_sum}
use Rattle.scp_files.specs.Tracks.{durations_of, entries_at, entries_before, head_fault, head_size}
use Rattle.scp_files.specs.Tracks.{revolution_at, values_of}

-- the begin of a file says what the file says
pub record FileBeginTells (file : List ℕ) : Type 0 where
  pub fault : file_fault (take FRONT_SIZE file) ≡ file_fault file
  pub revolutions : revolutions_of (take FRONT_SIZE file) ≡ revolutions_of file
  pub resolution : resolution_of (take FRONT_SIZE file) ≡ resolution_of file
  pub tracks : (number : ℕ) → track_offset (take FRONT_SIZE file) number ≡ track_offset file number
  pub sum : wanted_sum (take FRONT_SIZE file) ≡ wanted_sum file

-- the header of a track says what the track says
pub record HeadTells (revolutions : ℕ) (track : List ℕ) : Type 0 where
  pub fault : (number : ℕ) → head_fault revolutions number (take (head_size revolutions) track)
      ≡ head_fault revolutions number track
  pub revolution : (r : ℕ) → r < revolutions
      → revolution_at (take (head_size revolutions) track) r ≡ revolution_at track r

-- the first revolutions, and one more
pub record GoesOn (track : List ℕ) (count : ℕ) : Type 0 where
  pub values : values_of track (count + 1)
      ≡ values_of track count ++ entries_at track (revolution_at track count)
  pub durations : durations_of track (count + 1)
      ≡ durations_of track count ++ (revolution_at track count).duration ∷ []
  pub entries : entries_before track (count + 1)
      ≡ entries_before track count + (revolution_at track count).entries

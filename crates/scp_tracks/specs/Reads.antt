-- What came of reading a track of an SCP file as the stream that it stands for.
use Rattle.std.specs.Prelude.{◌≡◌, ◌≤◌, ℕ, List, length, Option, Some, None, Result, Ok, Err}
use Rattle.index_turns.specs.Track.{TrackState}
use Rattle.kryo_stream.specs.Outcome.{IsSmall}
use Rattle.kryo_stream.specs.Protocol.{LIMIT}
use Rattle.kryo_stream.specs.Stream.{first_fault, indexes, times}
use Rattle.scp_files.specs.declared.fault.ScpTrackFault.{ScpTrackFault}
use Rattle.scp_tracks.specs.declared.stream.ScpRead.{ScpRead}
use Rattle.scp_tracks.specs.declared.stream.ScpRead.TheVariants.{Absent, Faulty, Read, Refused}

-- the stream was read whole, and has so many bytes
pub record IsReadOf (stream : List ℕ) (flux : TrackState) (size : ℕ) : Type 0 where
  pub no_fault : first_fault stream ≡ None
  pub times_are : flux.times ≡ times stream
  pub indexes_are : flux.indexes ≡ indexes stream
  pub size_is : size ≡ length stream
  pub short : size ≤ LIMIT

-- what came of a track: there is none, it is refused, or its stream was read, or has a fault
abbrev pub IsScpRead : Option (Result (List ℕ) ScpTrackFault) → ScpRead → TrackState → Type 0
IsScpRead track Absent flux = track ≡ None
IsScpRead track (Refused fault) flux = track ≡ Some (Err fault)
IsScpRead track (Faulty block fault) flux =
    (stream : List ℕ) × (track ≡ Some (Ok stream)) × (first_fault stream ≡ Some (block, fault))
IsScpRead track (Read size) flux =
    (stream : List ℕ) × (track ≡ Some (Ok stream)) × IsReadOf stream flux size

-- the transitions and index times of one that was read are bounded
abbrev pub IsBoundedRead : ScpRead → TrackState → Type 0
IsBoundedRead (Read size) flux = IsSmall flux × (2 ≤ length flux.indexes)
IsBoundedRead Absent flux = Unit {0}
IsBoundedRead (Refused fault) flux = Unit {0}
IsBoundedRead (Faulty block fault) flux = Unit {0}

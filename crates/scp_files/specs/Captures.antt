-- What a capture of an SCP file comes to while its revolutions are read one after the other.
use Rattle.std.specs.Prelude.{◌≡◌, ◌≤◌, ◌<◌, ℕ, ◌+◌, ◌-◌, ◌*◌, ◌++◌, Bool, false, true, List, []}
use Rattle.std.specs.Prelude.{◌∷◌, get_or, length, sum_by, take, Option, Result, Ok, Err}
use Rattle.std.specs.Io.KnownBytes.{Consumes, IsAtEnd}
use Rattle.std.specs.List.{sum}
use Rattle.index_turns.specs.Track.{TrackState}
use Rattle.scp_files.specs.Tracks.{words}
use Rattle.scp_files.specs.Units.{entry_units, moments, transitions}
use Rattle.scp_files.specs.declared.fault.RevolutionFault.{RevolutionFault}
use Rattle.scp_files.specs.declared.fault.RevolutionFault.TheVariants.{Ended, ReadFault}
use Rattle.scp_files.specs.declared.head.Revolution.{Revolution}

-- the transitions and index times so far, how long a unit is, how many entries and how many
-- revolutions there were, how many units they took, and whether an index time did not rise
pub record CaptureState : Type 0 where
  pub flux : TrackState
  pub resolution : ℕ
  pub entries : ℕ
  pub units : ℕ
  pub revolutions : ℕ
  pub moment : ℕ
  pub falls : Bool

-- the most revolutions of a file
abbrev pub MOST_REVOLUTIONS : ℕ
MOST_REVOLUTIONS = 255

-- the index times for which there is room: those of any stream
abbrev pub MOST_INDEXES : ℕ
MOST_INDEXES = 262144

-- all of these index times were kept, which rise; or those before the first that is not above
-- the one before it
abbrev pub AreKept : (all kept : List ℕ) → (falls : Bool) → Type 0
AreKept all kept false = kept ≡ all
AreKept all kept true =
    (kept ≡ take (length kept) all) × (0 < length kept) × (length kept < length all)
    × (get_or all (length kept) 0 ≤ get_or all (length kept - 1) 0)

-- what these entries and durations come to
pub record Holds (values durations : List ℕ) (c : CaptureState) : Type 0 where
  pub times : c.flux.times ≡ transitions c.resolution values
  pub indexes : AreKept (moments c.resolution durations) c.flux.indexes c.falls
  pub entries : c.entries ≡ length values
  pub units : c.units ≡ sum_by entry_units values
  pub revolutions : c.revolutions ≡ length durations
  pub moment : c.moment ≡ sum durations

-- what the capture held, it holds
abbrev pub HoldsStill : (old new : CaptureState) → Type 0
HoldsStill old new = (values durations : List ℕ) → Holds values durations old
    → Holds values durations new

-- fewer bytes than so many were taken
abbrev pub TakesFewer : (left left' : Option (List ℕ)) → (most : ℕ) → Type 0
TakesFewer left left' most = (taken : List ℕ) × Consumes left left' taken × (length taken < most)

-- the source gave the entries of a revolution, and the capture holds them and it besides
pub record TakesRevolution (left left' : Option (List ℕ)) (it : Revolution)
    (old new : CaptureState) : Type 0 where
  pub taken : List ℕ
  pub consumed : Consumes left left' taken
  pub size : length taken ≡ 2 * it.entries
  pub holds : (values durations : List ℕ) → Holds values durations old
      → Holds (values ++ words taken) (durations ++ it.duration ∷ []) new

-- the source gave fewer bytes, and the capture holds what it held
pub record LeavesRevolution (left left' : Option (List ℕ)) (it : Revolution)
    (old new : CaptureState) : Type 0 where
  pub taken : List ℕ
  pub consumed : Consumes left left' taken
  pub few : length taken < 2 * it.entries
  pub holds : HoldsStill old new

-- what came of reading a revolution
abbrev pub ReadsRevolution : (left left' : Option (List ℕ)) → Revolution
    → (old new : CaptureState) → Result (Unit {0}) RevolutionFault → Type 0
ReadsRevolution left left' it old new (Ok _) = TakesRevolution left left' it old new
ReadsRevolution left left' it old new (Err Ended) =
    LeavesRevolution left left' it old new × IsAtEnd left'
ReadsRevolution left left' it old new (Err ReadFault) = LeavesRevolution left left' it old new

abbrev pub is_read_fault : Result (Unit {0}) RevolutionFault → Bool
is_read_fault (Err ReadFault) = true
is_read_fault _ = false

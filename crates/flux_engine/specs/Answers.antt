-- What the calls that decode may answer, and what that says of the input and
-- of the bytes that were written.
use Rattle.std.specs.Prelude.{◌≡◌, ◌≤◌, ◌<◌, ℕ, ◌+◌, Bool, List, [], ◌++◌, length, take, Option}
use Rattle.std.specs.Prelude.{Some, None, Result, Ok, Err}
use Rattle.std.specs.Io.KnownBytes.{Appends, Consumes, IsAtEnd}
use Rattle.flux_base.specs.Outside.{GREATEST_COUNT}
use Rattle.kryo_stream.specs.Outcome.{input_of}
use Rattle.kryo_stream.specs.Stream.{first_fault, times, indexes}
use Rattle.kryo_stream.specs.declared.fault.StreamFault.TheVariants.{Truncated}
use Rattle.flux_engine.specs.Streams.{behind, behind_stream}
use Rattle.kryo_stream.specs.declared.fault.CaptureFault.{CaptureFault}
use Rattle.kryo_stream.specs.declared.fault.CaptureFault.TheVariants.{ReadFault as UnreadCapture}
use Rattle.kryo_stream.specs.declared.fault.CaptureFault.TheVariants.{Refused as RefusedStream}

-- x begins with a stream of these transitions and index times, and this stands after it
pub record IsTrackStream (x times' indexes' stays : List ℕ) : Type 0 where
  pub no_fault : first_fault x ≡ None
  pub times : times' ≡ times x
  pub indexes : indexes' ≡ indexes x
  pub rest : stays ≡ behind_stream x

abbrev pub CaptureAnswer : Type 0
CaptureAnswer = Result (Unit {0}) CaptureFault

-- the answer for one stream says that the input ends inside a block
abbrev pub IsTruncatedCapture : CaptureAnswer → Type 0
IsTruncatedCapture (Err (RefusedStream _ fault)) = fault ≡ Truncated
IsTruncatedCapture _ = ⊥

-- it is right for the bytes at hand alone
abbrev pub IsOfCaptureAtHand : CaptureAnswer → Type 0
IsOfCaptureAtHand (Err (RefusedStream _ fault)) = fault ≡ Truncated
IsOfCaptureAtHand (Err UnreadCapture) = Unit {0}
IsOfCaptureAtHand (Ok _) = ⊥

-- what it says of the input x
abbrev pub SaysOfCapture : CaptureAnswer → (x times' indexes' stays : List ℕ) → Type 0
SaysOfCapture (Ok _) x times' indexes' stays = IsTrackStream x times' indexes' stays
SaysOfCapture (Err (RefusedStream block fault)) x times' indexes' stays =
    first_fault x ≡ Some (block, fault)
SaysOfCapture (Err UnreadCapture) x times' indexes' stays =
    (block : ℕ) × (first_fault x ≡ Some (block, Truncated))

-- A call that reads a stream: it took these bytes, which with the held ones are no more than
-- padding, a stream and an intake can be, and what it says of the stream is right whatever follows
-- the bytes at hand, unless it is of them alone.
pub record ReadsStream (left left' : Option (List ℕ)) (used : Bool)
    (held held' times indexes : List ℕ) (answer : CaptureAnswer) : Type 0 where
  pub taken : List ℕ
  pub consumed : Consumes left left' taken
  pub few : length (held ++ taken) ≤ 4198416
  pub stream : (later : List ℕ) → (IsOfCaptureAtHand answer → later ≡ [])
      → SaysOfCapture answer (input_of used ((held ++ taken) ++ later)) times indexes
      (held' ++ later)
  pub ended : IsTruncatedCapture answer → IsAtEnd left'

-- bytes were appended whole, and after them a part of some more that is shorter than these
abbrev pub AppendsAndPart : Option (List ℕ) → Option (List ℕ) → List ℕ → List ℕ → Type 0
AppendsAndPart old new whole more =
    (n : ℕ) × (n < length more) × Appends old new (whole ++ take n more)

-- x up to where `later` begins was taken: the first n streams to their end, and
-- after them at most so many bytes
pub record IsTakenBehind (x later : List ℕ) (n most : ℕ) : Type 0 where
  pub whole : length later ≤ length (behind x n)
  pub few : length (behind x n) ≤ length later + most

-- a count of faults did not rise
abbrev pub Stayed : ℕ → ℕ → Type 0
Stayed before now = (now ≡ before) × (before < GREATEST_COUNT)

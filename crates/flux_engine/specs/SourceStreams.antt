-- Streams that follow one another in a source, as those of a disk.
use Rattle.std.specs.Prelude.{◌≡◌, ◌<◌, ℕ, Bool, false, List, [], ◌++◌, length, Some, Err}
use Rattle.std.specs.Io.KnownBytes.{Consumes, IsAtEnd}
use Rattle.flux_base.specs.Counts.{Counts, FaultCounts}
use Rattle.kryo_stream.specs.Reads.{SourceMoment}
use Rattle.kryo_stream.specs.Stream.{first_fault}
use Rattle.kryo_stream.specs.declared.fault.StreamFault.TheVariants.{Truncated}
use Rattle.sector_images.specs.declared.format.Format.{Format}
use Rattle.flux_engine.specs.Answers.{IsOfCaptureAtHand, IsTakenBehind, IsTruncatedCapture}
use Rattle.flux_engine.specs.Blamed.{is_unread}
use Rattle.flux_engine.specs.LoopProgress.{seen_at}
use Rattle.flux_engine.specs.Needed.{ReadsWhereOpen}
use Rattle.flux_engine.specs.PlanAnswers.{MOST_OF_STREAM}
use Rattle.flux_engine.specs.PlanProgress.{HasCome}
use Rattle.flux_engine.specs.Plans.{EndsInPlan, Seen, seen}
use Rattle.flux_engine.specs.Streams.{stream_at}
use Rattle.kryo_stream.specs.declared.fault.CaptureFault.{CaptureFault}
use Rattle.kryo_stream.specs.declared.fault.CaptureFault.TheVariants.{ReadFault, Refused}
use Rattle.flux_engine.specs.declared.plan.Plan.{Plan}

-- these are the first streams of the input, whatever follows the bytes that were taken
abbrev pub AreFirst : (taken : List ℕ) → List Seen → Type 0
AreFirst taken streams = (later : List ℕ) (i : ℕ) → i < length streams
    → seen_at streams i ≡ seen (stream_at (taken ++ later) i)

-- where a source that tells its bytes was read, the plan's streams went on
-- after those that it gave before
abbrev pub WasNeeded : Plan → Format → (start now : SourceMoment) → Type 0
WasNeeded plan format start now =
    (x : List ℕ) → start.left ≡ Some x → ReadsWhereOpen (EndsInPlan plan format) start now

-- From one moment to another these streams were taken, and these
-- bytes, which are held, behind them.
pub record HaveCome (plan : Plan) (format : Format) (start now : SourceMoment) (held : List ℕ)
    (used : Bool) (streams : List Seen) : Type 0 where
  pub taken : List ℕ
  pub come : HasCome start.left now.left taken held used (length streams)
  pub are : AreFirst taken streams
  pub needed : WasNeeded plan format start now

-- what a fault says of the bytes that begin with the stream
abbrev pub IsFaultOf : CaptureFault → List ℕ → Type 0
IsFaultOf (Refused block fault) x = first_fault x ≡ Some (block, fault)
IsFaultOf ReadFault x = (block : ℕ) × (first_fault x ≡ Some (block, Truncated))

-- From one moment to another these streams were taken, and the next one ended with a fault: what it
-- says is right whatever follows the bytes that were taken, unless it is of them alone.
pub record HaveEnded (plan : Plan) (format : Format) (start now : SourceMoment)
    (streams : List Seen) (fault : CaptureFault) : Type 0 where
  pub taken : List ℕ
  pub consumed : Consumes start.left now.left taken
  pub are : AreFirst taken streams
  pub says : (later : List ℕ) → (IsOfCaptureAtHand (Err fault) → later ≡ [])
      → IsFaultOf fault (stream_at (taken ++ later) (length streams))
  pub behind : (later : List ℕ)
      → IsTakenBehind (taken ++ later) later (length streams) MOST_OF_STREAM
  pub ended : IsTruncatedCapture (Err fault) → IsAtEnd now.left
  pub needed : WasNeeded plan format start now

-- the source did not fail in between; or it did where the fault is one of reading it
abbrev pub HaveComeCounted : Plan → Format → (start now : SourceMoment)
    → (before after : FaultCounts) → (held : List ℕ) → (used : Bool) → List Seen → Type 0
HaveComeCounted plan format start now before after held used streams =
    HaveCome plan format start now held used streams × Counts false before after

abbrev pub HaveEndedCounted : Plan → Format → (start now : SourceMoment)
    → (before after : FaultCounts) → List Seen → CaptureFault → Type 0
HaveEndedCounted plan format start now before after streams fault =
    HaveEnded plan format start now streams fault
    × Counts (is_unread {A = Unit {0}} (Err fault)) before after

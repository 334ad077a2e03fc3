-- The work of `turns`.
use Rattle.std.specs.Prelude.{◌≡◌, ℕ, false, ◌++◌, List, [], Option, Some, None}
use Rattle.flux_base.specs.declared.status.Status.{Status}
use Rattle.flux_base.specs.declared.status.Status.TheVariants.{AllGood, Refused, ReadFault}
use Rattle.flux_base.specs.declared.status.Status.TheVariants.{ImageFault, NotesFault}
use Rattle.flux_engine.specs.Answers.{IsTakenBehind}
use Rattle.kryo_stream.specs.Outcome.{DoNotTell}
use Rattle.kryo_stream.specs.Stream.{first_fault, times, indexes}
use Rattle.kryo_stream.specs.declared.fault.StreamFault.{StreamFault}
use Rattle.kryo_stream.specs.declared.fault.StreamFault.TheVariants.{Truncated}
use Rattle.sector_report.specs.Lines.{refused_text}
use Rattle.flux_cli.specs.Turns.{turns_text}
use Rattle.flux_cli.specs.BytesWork.{BytesWork}
use Rattle.flux_cli.specs.Work.{Outcome, Growth, GotNothing, GivesFront, ends_in_memory}

-- the most bytes of padding before a stream, of the stream, and of what an intake holds after it
abbrev pub MOST_AT_ONCE : ℕ
MOST_AT_ONCE = 4198416

-- the stream's transitions and turns, or why it is refused
abbrev pub turns_by : List ℕ → Option (ℕ × StreamFault) → Outcome
turns_by x None = record { status = AllGood; image = turns_text (times x) (indexes x); notes = [] }
turns_by x (Some fault) =
    record { status = Refused; image = []; notes = refused_text 0 fault.0 fault.1 }

abbrev pub turns_outcome : List ℕ → Outcome
turns_outcome x = turns_by x (first_fault x)

-- a stream is taken to its End, and a little after it
abbrev pub turns_leaves : Status → (x later : List ℕ) → Type 0
turns_leaves AllGood x later = IsTakenBehind x later 1 4096
turns_leaves Refused x later = IsTakenBehind x later 0 MOST_AT_ONCE
turns_leaves _ x later = ⊥

-- the source failed inside the stream: the first fault of what it gave is that it is cut
-- short, and nothing was written
pub record CutInStream (taken : List ℕ) (image notes : Growth) : Type 0 where
  pub block : ℕ
  pub cut_short : first_fault taken ≡ Some (block, Truncated)
  pub image_got : GotNothing image
  pub notes_got : GotNothing notes

abbrev pub turns_cut : Status → (taken later : List ℕ) → (image notes : Growth) → Type 0
turns_cut ReadFault taken later image notes =
    CutInStream taken image notes × IsTakenBehind (taken ++ later) later 0 MOST_AT_ONCE
turns_cut ImageFault taken later image notes =
    GivesFront (turns_outcome (taken ++ later)) image notes
    × IsTakenBehind (taken ++ later) later 0 MOST_AT_ONCE
turns_cut NotesFault taken later image notes =
    GivesFront (turns_outcome (taken ++ later)) image notes
    × IsTakenBehind (taken ++ later) later 0 MOST_AT_ONCE
turns_cut _ taken later image notes = ⊥

-- after bytes that end inside a block the stream may go on
abbrev pub turns_work : BytesWork
turns_work = record {
  ends = ends_in_memory;
  gives = λ x o. o ≡ turns_outcome x;
  untold = DoNotTell false;
  leaves = turns_leaves;
  cut = turns_cut;
}

-- What `decode-folder` does: `decode` with the shelf as its source, once
-- the shelf has all wanted files.
use Rattle.std.specs.Prelude.{◌≡◌, ◌≢◌, ◌⊎◌, ◌<◌, ◌≤◌, ℕ, List, length, Option, Some, None, Result}
use Rattle.std.specs.Prelude.{Ok, Err, IfOk, IfSome, OnErr}
use Rattle.std.specs.List.{slice_get}
use Rattle.dump_reading.specs.Files.{ShelfNow}
use Rattle.flux_base.specs.Moments.{Moment}
use Rattle.flux_base.specs.Outside.{Rose}
use Rattle.flux_base.specs.declared.outside.Failed.{Failed}
use Rattle.flux_base.specs.declared.status.Status.{Status}
use Rattle.flux_base.specs.declared.status.Status.TheVariants.{Refused, ReadFault, NotesFault}
use Rattle.flux_base.specs.declared.status.Status.TheVariants.{Memory, ShelfFault}
use Rattle.flux_base.specs.declared.track.TrackId.{TrackId}
use Rattle.flux_engine.specs.Plans.{decoding}
use Rattle.sector_images.specs.Places.{tracks}
use Rattle.sector_images.specs.declared.format.Format.{Format}
use Rattle.track_shelf.specs.Files.{LeavesWanted, NamesMissing}
use Rattle.track_shelf.specs.Names.{missing_text}
use Rattle.flux_cli.specs.BytesWork.{of_bytes}
use Rattle.flux_cli.specs.PlanWork.{planned_work}
use Rattle.flux_cli.specs.Runs.{Does, growth}
use Rattle.flux_cli.specs.Work.{Got, GotPart}
use Rattle.flux_cli.specs.World.{InputMoment, Outside, as_source}
use Rattle.flux_words.specs.declared.commands.Output.TheVariants.{ImageAndReport}

-- what `begin` answered, and what the shelf was before it and after it
pub record Began {H : Type 0} (folder : List ℕ) (format : Format)
    (answer : Result (Option ℕ) Failed) (before after : InputMoment H ShelfNow) : Type 0 where
  pub bound : IfOk answer (λ missing. IfSome missing (λ number. number < length (tracks format)))
  pub missing : NamesMissing before.seen.told.files folder format answer
  pub left : LeavesWanted before.seen.told.files folder format answer before.seen.told.left
      after.seen.told.left
  pub kept : after.seen.told.files ≡ before.seen.told.files
  pub unhandled : after.seen.told.handled ≡ before.seen.told.handled
  pub unread : after.seen.told.given ≡ before.seen.told.given
  pub later : before.counts.faults ≤ after.counts.faults
  pub cause : OnErr answer (Rose before.counts.faults after.counts.faults)

-- the notes got the line that says which file is missing; or their fault cut it
abbrev pub SaysMissing : {N : Type 0} → Status → List ℕ → (before after : Moment N) → Type 0
SaysMissing Refused line before after = Got (growth before after) line
SaysMissing NotesFault line before after =
    GotPart (growth before after) line × Rose before.counts.faults after.counts.faults
SaysMissing _ line before after = ⊥

-- the file of the track of this number is missing: the notes say so, and nothing else is touched
pub record RefusesMissing {H W N : Type 0} (format : Format) (number : ℕ) (status : Status)
    (before after : Outside H ShelfNow W N) : Type 0 where
  pub track : TrackId
  pub is : slice_get (tracks format) number ≡ Some track
  pub says : SaysMissing status (missing_text number track) before.notes after.notes
  pub untouched : after ≡ record before { notes = after.notes }
  pub later : before.notes.counts.faults ≤ after.notes.counts.faults

-- a fault of the source is one of the shelf
abbrev pub over_shelf : Status → Status
over_shelf ReadFault = ShelfFault
over_shelf status = status

-- what `decode` does with the shelf as its source
pub record DecodesShelf {H W N : Type 0} (format : Format) (status : Status)
    (before after : Outside H ShelfNow W N) : Type 0 where
  pub inner : Status
  pub status_is : status ≡ over_shelf inner
  pub enough : inner ≢ Memory
  pub later : before.input.counts.faults ≤ after.input.counts.faults
  pub does : Does (of_bytes (planned_work decoding ImageAndReport format)) inner (as_source before)
      (as_source after)

-- what was done by what `begin` answered
abbrev pub DidBy : {H W N : Type 0} → Format → Result (Option ℕ) Failed → Status
    → (before after : Outside H ShelfNow W N) → Type 0
DidBy format (Err _) status before after = (status ≡ ShelfFault) × (after ≡ before)
DidBy format (Ok (Some number)) status before after =
    RefusesMissing format number status before after
DidBy format (Ok None) status before after = DecodesShelf format status before after

-- The shelf was asked for the folder's files, and the rest was done by its answer.
pub record DidFolder {H W N : Type 0} (format : Format) (folder : List ℕ) (status : Status)
    (before after : Outside H ShelfNow W N) : Type 0 where
  pub answer : Result (Option ℕ) Failed
  pub shelf : InputMoment H ShelfNow
  pub began : Began folder format answer before.input shelf
  pub did : DidBy format answer status (record before { input = shelf }) after

-- or there was no memory to begin
abbrev pub DoesFolder : {H W N : Type 0} → Format → (folder : List ℕ) → Status
    → (before after : Outside H ShelfNow W N) → Type 0
DoesFolder format folder status before after =
    ((status ≡ Memory) × (after ≡ before)) ⊎ DidFolder format folder status before after

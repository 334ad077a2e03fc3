-- What a command did with its input, whatever that is. It finished, and gave all that the input
-- comes to. Or a fault of one object, which that object counted, cut it. Or there was no memory to
-- begin, and nothing was touched.
use Rattle.std.specs.Prelude.{◌≡◌, ◌⊎◌}
use Rattle.flux_base.specs.Moments.{Moment}
use Rattle.flux_base.specs.Outside.{Rose}
use Rattle.flux_base.specs.declared.status.Status.{Status}
use Rattle.flux_base.specs.declared.status.Status.TheVariants.{AllGood, NotAllGood, Refused, Usage}
use Rattle.flux_base.specs.declared.status.Status.TheVariants.{ReadFault, ImageFault, NotesFault}
use Rattle.flux_base.specs.declared.status.Status.TheVariants.{Memory, ShelfFault}
use Rattle.flux_cli.specs.Work.{Outcome, Growth, Got, Work}
use Rattle.flux_cli.specs.World.{Outside}

abbrev pub growth : {A : Type 0} → Moment A → Moment A → Growth
growth before after = record { before = before.bytes; after = after.bytes }

-- the work is done: both sinks got all that the input comes to, and the status is the outcome's
pub record Finished {A V W N : Type 0} (work : Work V) (status : Status)
    (before after : Outside A V W N) : Type 0 where
  pub outcome : Outcome
  pub gives : work.gives before.input.seen after.input.seen outcome
  pub status_is : status ≡ outcome.status
  pub image_got : Got (growth before.image after.image) outcome.image
  pub notes_got : Got (growth before.notes after.notes) outcome.notes

-- a fault cut the work at a place that the command's row states
abbrev pub IsCut : {A V W N : Type 0} → Work V → Status → (before after : Outside A V W N) → Type 0
IsCut work status before after = work.cut status before.input.seen after.input.seen
    (growth before.image after.image) (growth before.notes after.notes)

-- What the status says, by the row of what was done. A fault of the shelf cuts the reading of a
-- folder; of dumps the files that fail are passed over.
abbrev pub Says : {A V W N : Type 0} → Work V → Status → (before after : Outside A V W N) → Type 0
Says work AllGood before after = Finished work AllGood before after
Says work NotAllGood before after = Finished work NotAllGood before after
Says work Refused before after = Finished work Refused before after
Says work Usage before after = Finished work Usage before after
Says work ReadFault before after =
    IsCut work ReadFault before after × Rose before.input.counts.faults after.input.counts.faults
Says work ImageFault before after =
    IsCut work ImageFault before after × Rose before.image.counts.faults after.image.counts.faults
Says work NotesFault before after =
    IsCut work NotesFault before after × Rose before.notes.counts.faults after.notes.counts.faults
Says work Memory before after = after ≡ before
Says work ShelfFault before after =
    (Finished work ShelfFault before after ⊎ IsCut work ShelfFault before after)
    × Rose before.input.counts.faults after.input.counts.faults

-- what was done, by the row
pub record Does {A V W N : Type 0} (work : Work V) (status : Status)
    (before after : Outside A V W N) : Type 0 where
  pub answer : work.ends status
  pub says : Says work status before after
  pub keeps : work.keeps before.input.seen after.input.seen

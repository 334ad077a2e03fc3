-- What there is to do for a command that makes files of the bytes of a source, and what it did.
use Rattle.std.specs.Prelude.{◌≡◌, ◌⊎◌, ℕ, List, Option, Result}
use Rattle.file_maker.specs.Made.{Made}
use Rattle.flux_base.specs.Moments.{Moment, Puts}
use Rattle.flux_base.specs.declared.outside.Failed.{Failed}
use Rattle.flux_base.specs.declared.status.Status.{Status}
use Rattle.flux_base.specs.declared.status.Status.TheVariants.{AllGood, Memory, ReadFault}
use Rattle.flux_base.specs.declared.status.Status.TheVariants.{ShelfFault}
use Rattle.kryo_stream.specs.Reads.{SourceMoment}
use Rattle.flux_cli.specs.Endings.{EndsBy, ends, refuses}
use Rattle.flux_cli.specs.World.{World}

-- how it ends: all is made; the source failed; a line says what is refused; or one says what was
-- not made, for which what makes files is to blame
pub data MakingEnding : Type 0 where
  all_made : MakingEnding
  unread : MakingEnding
  refused : (line : List ℕ) → MakingEnding
  unmade : (line : List ℕ) → MakingEnding

-- The status tells what was not made, and so does the line, of which a fault of the notes may have
-- left a front.
abbrev pub TellsUnmade : {N : Type 0} → (line : List ℕ) → Status → (before after : Moment N)
    → Type 0
TellsUnmade line status before after =
    (status ≡ ShelfFault) × ((told : Result (Unit {0}) Failed) × Puts before after line told)

-- the status, and what became of the notes
abbrev pub EndsMaking : {N : Type 0} → MakingEnding → Status → (before after : Moment N) → Type 0
EndsMaking all_made status before after = EndsBy (ends AllGood) status before after
EndsMaking unread status before after = EndsBy (ends ReadFault) status before after
EndsMaking (refused line) status before after = EndsBy (refuses line) status before after
EndsMaking (unmade line) status before after = TellsUnmade line status before after

-- The row of one command.
pub record MakingWork : Type 1 where
  -- what its work may answer
  pub answers : Type 0
  -- what an answer says of the source, and of what is made
  pub says : (start now : SourceMoment) → (made made' : Option Made) → answers → Type 0
  -- and how it ends the command
  pub ending : answers → MakingEnding

-- the work was done as it answered, which ended the command
pub record HasMade {S W N H M : Type 0} (work : MakingWork) (status : Status)
    (before after : World S W N H M) : Type 0 where
  pub answer : work.answers
  pub says : work.says before.source.seen after.source.seen before.maker.made after.maker.made
      answer
  pub ends : EndsMaking (work.ending answer) status before.notes after.notes

-- or there was no memory to begin
abbrev pub Makes : {S W N H M : Type 0} → MakingWork → Status → (before after : World S W N H M)
    → Type 0
Makes work status before after =
    ((status ≡ Memory) × (after ≡ before)) ⊎ HasMade work status before after

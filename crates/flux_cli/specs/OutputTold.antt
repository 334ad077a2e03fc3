-- What is told of a fault of standard output. Under a word that the usage line does not name the
-- notes get one line more behind all else, or a front of it where they fail; and nothing else is
-- called. Under those that it names all is silent.
use Rattle.std.specs.Prelude.{◌≡◌, ◌≤◌, ℕ, List, [], ◌∷◌, Bool, true, false, codes, Option, Some}
use Rattle.std.specs.Prelude.{None, Result}
use Rattle.flux_base.specs.Moments.{Moment, Puts}
use Rattle.flux_base.specs.declared.outside.Failed.{Failed}
use Rattle.flux_base.specs.declared.status.Status.{Status}
use Rattle.flux_base.specs.declared.status.Status.TheVariants.{ImageFault}
use Rattle.flux_help.specs.Verbs.{is_own, verb_of}
use Rattle.flux_help.specs.declared.verb.Verb.{Verb}
use Rattle.flux_cli.specs.ShelfRuns.{Ran}
use Rattle.flux_cli.specs.World.{World}

-- the line
abbrev pub failed_output_text : List ℕ
failed_output_text = codes "failed output\n"

-- the usage line does not name the command of a first word: other words than a command's that write
-- are `--help`, `-h` and `--version`
abbrev pub is_unnamed : Option Verb → Bool
is_unnamed (Some verb) = is_own verb
is_unnamed None = true

abbrev pub tells_faults : List (List ℕ) → Bool
tells_faults [] = false
tells_faults (first ∷ others) = is_unnamed (verb_of first)

-- a fault is told where it is one of the output, under such words
abbrev pub is_told : List (List ℕ) → Status → Bool
is_told words ImageFault = tells_faults words
is_told words _ = false

-- the notes got the line, or failed in it; where nothing is told, they are as they were
abbrev pub ToldIf : {N : Type 0} → Bool → (before after : Moment N) → Type 0
ToldIf true before after =
    (answer : Result (Unit {0}) Failed) × Puts before after failed_output_text answer
ToldIf false before after = after ≡ before

-- the same objects with other notes
abbrev pub with_notes : {S W N H M : Type 0} → Moment N → World S W N H M → World S W N H M
with_notes notes now = record now { notes = notes }

-- What a run with these words did: all that the words ask for, by the notes that it left, which had
-- failed no less often than before; and then the line, where one is told.
pub record RanAndTold {S W N H M : Type 0} (words : List (List ℕ)) (status : Status)
    (before after : World S W N H M) : Type 0 where
  pub notes : Moment N
  pub ran : Ran words status before (with_notes notes after)
  pub later : before.notes.counts.faults ≤ notes.counts.faults
  pub told : ToldIf (is_told words status) notes after.notes

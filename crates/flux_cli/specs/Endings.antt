-- How a command ends by what its work answered: with a status, or with a line to the notes that
-- says why the input is refused.
use Rattle.std.specs.Prelude.{◌≡◌, ℕ, List, Option, Result, Ok, Err}
use Rattle.dump_reading.specs.declared.fault.NoFiles.{NoFiles}
use Rattle.flux_base.specs.Blames.{Blame, no_one}
use Rattle.flux_base.specs.Moments.{Moment, Puts}
use Rattle.flux_base.specs.declared.outside.Failed.{Failed}
use Rattle.flux_base.specs.declared.status.Status.{Status}
use Rattle.flux_base.specs.declared.status.Status.TheVariants.{AllGood, Refused, ReadFault}
use Rattle.flux_base.specs.declared.status.Status.TheVariants.{ImageFault, NotesFault, ShelfFault}
use Rattle.flux_engine.specs.PlanAnswers.{PlanAnswer}
use Rattle.flux_engine.specs.Writes.{Answer as ImageAnswer}
use Rattle.flux_engine.specs.declared.fault.Stopped.{Stopped}
use Rattle.flux_engine.specs.declared.fault.Stopped.TheVariants.{Refused as RefusedInput}
use Rattle.flux_engine.specs.declared.fault.Stopped.TheVariants.{ReadFault as Unread}
use Rattle.flux_engine.specs.declared.fault.Stopped.TheVariants.{ImageFault as Unwritten}
use Rattle.flux_engine.specs.declared.fault.Stopped.TheVariants.{NotesFault as Untold}
use Rattle.flux_engine.specs.declared.write_fault.WriteFault.TheVariants.{WrongSize}
use Rattle.flux_engine.specs.declared.write_fault.WriteFault.TheVariants.{ReadFault as ImageUnread}
use Rattle.flux_engine.specs.declared.write_fault.WriteFault.TheVariants.{ImageFault as ImageUnwritten}
use Rattle.g64_image.specs.Answers.{FromAnswer}
use Rattle.g64_image.specs.Lines.{g64_text}
use Rattle.sector_report.specs.Lines.{image_text}
use Rattle.sector_report.specs.declared.naming.Naming.{Naming}
use Rattle.flux_cli.specs.PlanWork.{status_of, stop_text}
use Rattle.flux_cli.specs.ShelfWork.{TellsEmpty}
use Rattle.track_shelf.specs.Files.{File}

pub data Ending : Type 0 where
  ends : Status → Ending
  refuses : List ℕ → Ending

-- the status, and what became of the notes: a line of which a fault of theirs may have left a part
abbrev pub EndsBy : {N : Type 0} → Ending → Status → (before after : Moment N) → Type 0
EndsBy (ends status) answer before after = (answer ≡ status) × (after ≡ before)
EndsBy (refuses text) Refused before after = Puts {T = Unit {0}} before after text (Ok tt)
EndsBy (refuses text) NotesFault before after =
    (failed : Failed) × Puts {T = Unit {0}} before after text (Err failed)
EndsBy (refuses text) _ before after = ⊥

-- the status where a line refuses the input, by what became of that line
abbrev pub refusal : Result (Unit {0}) Failed → Status
refusal (Ok _) = Refused
refusal (Err _) = NotesFault

-- whom it blames that all was done as answered, but for the line
abbrev pub ending_blame : (Status → Blame) → Ending → Blame
ending_blame blame (ends status) = blame status
ending_blame blame (refuses text) = no_one

-- a line or a page that goes to the image, of which no input is read
abbrev pub written_status : Result (Unit {0}) Failed → Status
written_status (Ok _) = AllGood
written_status (Err _) = ImageFault

-- where the report stands in the image's place, a fault of its sink is one of the image
abbrev pub in_image : PlanAnswer → PlanAnswer
in_image (Ok totals) = Ok totals
in_image (Err Untold) = Err Unwritten
in_image (Err fault) = Err fault

-- reading that stopped, by the status where what is read failed, and by the line that refuses it
abbrev pub stop_ending : {R : Type 0} → Status → (R → List ℕ) → Stopped R → Ending
stop_ending unread line Unread = ends unread
stop_ending unread line Unwritten = ends ImageFault
stop_ending unread line Untold = ends NotesFault
stop_ending unread line (RefusedInput why) = refuses (line why)

-- a disk that was read by a plan
abbrev pub plan_ending : Naming → PlanAnswer → Ending
plan_ending naming (Ok totals) = ends (status_of totals)
plan_ending naming (Err stop) = stop_ending ReadFault (stop_text naming) stop

-- what is made of an image
abbrev pub image_ending : ImageAnswer → Ending
image_ending (Ok _) = ends AllGood
image_ending (Err ImageUnread) = ends ReadFault
image_ending (Err ImageUnwritten) = ends ImageFault
image_ending (Err (WrongSize read wanted)) = refuses (image_text read wanted)

-- a file that was read
abbrev pub file_ending : FromAnswer → Ending
file_ending (Ok totals) = ends (status_of totals)
file_ending (Err stop) = stop_ending ReadFault g64_text stop

-- what was asked of dumps and was not done, or not all, by the line that refuses it
abbrev pub fault_ending : (line : List ℕ) → Stopped NoFiles → Ending
fault_ending line stop = stop_ending ShelfFault (λ _. line) stop

-- the line is that on the dump that has no files
abbrev pub RefusesBy : Option (List File) → (dumps : List (List ℕ)) → Stopped NoFiles
    → (line : List ℕ) → Type 0
RefusesBy told dumps (RefusedInput empty) line = TellsEmpty told dumps empty.dump line
RefusesBy told dumps _ line = Unit {0}

pub record EndsFault {N : Type 0} (told : Option (List File)) (dumps : List (List ℕ))
    (fault : Stopped NoFiles) (status : Status) (before after : Moment N) : Type 0 where
  pub line : List ℕ
  pub refuses : RefusesBy told dumps fault line
  pub ends : EndsBy (fault_ending line fault) status before after

-- what was asked of dumps, by what became of it
abbrev pub EndsDumps : {A N : Type 0} → Option (List File) → (dumps : List (List ℕ)) → (A → Status)
    → Result A (Stopped NoFiles) → Status → (before after : Moment N) → Type 0
EndsDumps told dumps by (Ok done) status before after = EndsBy (ends (by done)) status before after
EndsDumps told dumps by (Err fault) status before after =
    EndsFault told dumps fault status before after

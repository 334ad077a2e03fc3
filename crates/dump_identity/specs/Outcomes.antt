-- What saying which disk a dump is of may answer, and what that says of the dump and
-- of the bytes that were written.
use Rattle.std.specs.Prelude.{◌≡◌, ◌⊎◌, ℕ, zero, suc, List, [], ◌∷◌, ◌++◌, length, map, Option}
use Rattle.std.specs.Prelude.{Some, None, Result, Ok, Err}
use Rattle.std.specs.Io.KnownBytes.{Appends, Keeps}
use Rattle.flux_engine.specs.Answers.{AppendsAndPart}
use Rattle.flux_engine.specs.Plans.{Seen}
use Rattle.flux_engine.specs.declared.fault.Stopped.{Stopped}
use Rattle.flux_engine.specs.declared.fault.Stopped.TheVariants.{ReadFault, ImageFault}
use Rattle.flux_engine.specs.declared.fault.Stopped.TheVariants.{NotesFault, Refused}
use Rattle.track_shelf.specs.Files.{File}
use Rattle.dump_reading.specs.DumpStreams.{HaveComeOf}
use Rattle.dump_reading.specs.Files.{ShelfNow}
use Rattle.dump_reading.specs.declared.fault.NoFiles.{NoFiles}
use Rattle.dump_tallies.specs.Files.{MOST_FILES, of_files}
use Rattle.dump_turns.specs.Outcomes.{IsReachTold}
use Rattle.dump_turns.specs.declared.reach.Reach.{Reach}
use Rattle.dump_numbers.specs.Found.{FindsDisks}
use Rattle.dump_numbers.specs.declared.finding.NumbersFound.{NumbersFound}
use Rattle.dump_identity.specs.Candidates.{by_reading, candidates_with}
use Rattle.dump_identity.specs.Findings.{AreFindings, best_of, identity_of}
use Rattle.dump_identity.specs.Lines.{end_text, line_of, lines_of}
use Rattle.dump_identity.specs.declared.candidate.Candidate.{Candidate}
use Rattle.dump_identity.specs.declared.finding.Finding.{Finding}
use Rattle.dump_identity.specs.declared.identity.Identity.{Identity}

abbrev pub candidates_in : List Finding → List Candidate
candidates_in findings = map (λ f. f.candidate) findings

-- how many files are opened for so many disks: all that a dump may have, or none for none
abbrev pub files_for : (disks : ℕ) → ℕ
files_for zero = 0
files_for (suc more) = MOST_FILES

-- The dump's files were opened between two moments of the shelf, all that it may have, and told
-- these disks by numbers; where they told one, all were opened once more. This came of them each
-- time. Of what the shelf tells of itself nothing changed, but which of them failed.
pub record AllCame (dump : List ℕ) (start now : ShelfNow) : Type 0 where
  pub between : ShelfNow
  pub came : List Seen
  pub many : length came ≡ MOST_FILES
  pub have : HaveComeOf (of_files dump) start between came
  pub numbers : NumbersFound
  pub finds : FindsDisks came numbers
  pub again : List Seen
  pub many_again : length again ≡ files_for (length numbers.disks.items)
  pub have_again : HaveComeOf (of_files dump) between now again

-- the candidates where these are the disks by numbers
abbrev pub candidates_by : NumbersFound → List Candidate
candidates_by numbers = candidates_with numbers.disks.items

-- what came of the files in the reading of the candidate of each number
abbrev pub came_for : {dump : List ℕ} {start now : ShelfNow} → AllCame dump start now → ℕ
    → List Seen
came_for files = by_reading files.came files.again

-- what all candidates come to, in order
pub record AreAllFindings (dump : List ℕ) (told : Option (List File)) (came : ℕ → List Seen)
    (candidates : List Candidate) (findings : List Finding) : Type 0 where
  pub all : candidates_in findings ≡ candidates
  pub are : AreFindings dump told came findings

-- what the first candidates come to
pub record AreFirstFindings (dump : List ℕ) (told : Option (List File)) (came : ℕ → List Seen)
    (candidates : List Candidate) (findings : List Finding) : Type 0 where
  pub behind : List Candidate
  pub first : candidates_in findings ++ behind ≡ candidates
  pub are : AreFindings dump told came findings

-- the dump has a file of a cylinder from 0 to 98; or none of any of them
abbrev pub HasSomeFile : (dump : List ℕ) → (told : Option (List File)) → Type 0
HasSomeFile dump told = (reach : Reach) × IsReachTold told dump (Some reach)

abbrev pub HasNoFiles : (dump : List ℕ) → (told : Option (List File)) → Type 0
HasNoFiles dump told = IsReachTold told dump None

-- what is said of a dump: the bytes that are written, and what is known
pub record Identified : Type 0 where
  pub lines : List ℕ
  pub identity : Identity

-- between two moments of the shelf, by the files that are told
pub record IsIdentified (dump : List ℕ) (start now : ShelfNow) (o : Identified) : Type 0 where
  pub some : HasSomeFile dump start.told.files
  pub files : AllCame dump start now
  pub findings : List Finding
  pub all : AreAllFindings dump start.told.files (came_for files)
      (candidates_by files.numbers) findings
  pub is : o
      ≡ record {
        lines = lines_of findings ++ end_text files.numbers.foreign.items (best_of findings);
        identity = identity_of files.came files.again findings files.numbers.foreign.items;
      }

-- all of it was written
pub record WroteIdentity (dump : List ℕ) (start now : ShelfNow) (lines lines' : Option (List ℕ))
    (identity : Identity) : Type 0 where
  pub outcome : Identified
  pub is : IsIdentified dump start now outcome
  pub grew : Appends lines lines' outcome.lines
  pub identity_is : identity ≡ outcome.identity

-- all files were read, the lines of the first candidates were written, and of the next one's line
-- a part that is shorter than it
pub record WroteIntoLine (dump : List ℕ) (start now : ShelfNow)
    (lines lines' : Option (List ℕ)) : Type 0 where
  pub files : AllCame dump start now
  pub findings : List Finding
  pub next : Finding
  pub first : AreFirstFindings dump start.told.files (came_for files)
      (candidates_by files.numbers) (findings ++ next ∷ [])
  pub grew : AppendsAndPart lines lines' (lines_of findings) (line_of next)

-- the lines of all candidates were written, and of those behind them a part that is shorter
pub record WroteIntoEnd (dump : List ℕ) (start now : ShelfNow)
    (lines lines' : Option (List ℕ)) : Type 0 where
  pub files : AllCame dump start now
  pub findings : List Finding
  pub all : AreAllFindings dump start.told.files (came_for files)
      (candidates_by files.numbers) findings
  pub grew : AppendsAndPart lines lines' (lines_of findings)
      (end_text files.numbers.foreign.items (best_of findings))

-- What an answer says. A dump without files is told before anything is written, as
-- the first and only one, and nothing of it was read; a file that fails ends
-- nothing. Nothing is written to notes.
abbrev pub SaysOfIdentity : (dump : List ℕ) → (start now : ShelfNow)
    → (lines lines' : Option (List ℕ)) → Result Identity (Stopped NoFiles) → Type 0
SaysOfIdentity dump start now lines lines' (Ok identity) =
    WroteIdentity dump start now lines lines' identity
SaysOfIdentity dump start now lines lines' (Err ReadFault) = ⊥
SaysOfIdentity dump start now lines lines' (Err (Refused empty)) =
    (empty.dump ≡ 0) × HasNoFiles dump start.told.files × (now ≡ start) × Keeps lines lines'
SaysOfIdentity dump start now lines lines' (Err ImageFault) =
    WroteIntoLine dump start now lines lines' ⊎ WroteIntoEnd dump start now lines lines'
SaysOfIdentity dump start now lines lines' (Err NotesFault) = ⊥

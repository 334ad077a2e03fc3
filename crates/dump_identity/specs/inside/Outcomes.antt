-- Steps of the crate's own functions, over what `Outcomes` defines.
use Rattle.std.specs.Prelude.{All, ◌≡◌, ◌<◌, ℕ, Bool, true, false, List, [], ◌∷◌, ◌++◌, drop}
use Rattle.std.specs.Prelude.{get_or, length, map, take, None, Option}
use Rattle.std.specs.Io.KnownBytes.{Appends}
use Rattle.flux_engine.specs.Answers.{AppendsAndPart}
use Rattle.flux_engine.specs.Plans.{Seen}
use Rattle.sector_report.specs.declared.dump_lines.Passed.{Passed}
use Rattle.track_shelf.specs.Files.{File}
use Rattle.track_shelf.specs.declared.stepping.Stepping.TheVariants.{Single}
use Rattle.told_disks.specs.declared.foreign.ForeignDisk.{ForeignDisk}
use Rattle.dump_reading.specs.DumpStreams.{AreOfDumps, GaveOf, HaveComeOf}
use Rattle.dump_reading.specs.Files.{ShelfNow}
use Rattle.dump_reading.specs.Outcomes.{IsToldEmpty}
use Rattle.dump_tallies.specs.Files.{MOST_FILES, of_files, track_of_file}
use Rattle.dump_tallies.specs.Numbers.{passed_of}
use Rattle.dump_tallies.specs.Tallies.{AreTallied, NoteFile, TalliedDisk}
use Rattle.dump_identity.specs.Candidates.{by_reading}
use Rattle.dump_identity.specs.Findings.{AreFindings, ComesTo, IsEmptyAs, best_of, disk_as}
use Rattle.dump_identity.specs.Lines.{end_text, line_of, lines_of}
use Rattle.dump_identity.specs.Outcomes.{AllCame, came_for, candidates_by, candidates_in, files_for}
use Rattle.dump_identity.specs.declared.candidate.Candidate.{Candidate}
use Rattle.dump_identity.specs.declared.finding.Finding.{Finding}

abbrev pub candidate_in : TalliedDisk → Candidate
candidate_in disk = record { stepping = disk.stepping; format = disk.format }

-- the same disks, and what the files come to of which this came
pub record AreTalliedAll (old new : List TalliedDisk) (came : List Seen) : Type 0 where
  pub same : map candidate_in new ≡ map candidate_in old
  pub each : All (λ disk. AreTallied disk came) new

-- This came of the first files of the dump, which are noted.
pub record HaveRead (dump : List ℕ) (start now : ShelfNow) (old new : List TalliedDisk)
    (passed : List (Option Passed)) (count : ℕ) (came : List Seen) : Type 0 where
  pub many : length came ≡ count
  pub have : HaveComeOf (of_files dump) start now came
  pub passed_are : passed ≡ passed_of came
  pub noted : AreTalliedAll old new came

-- The file of this number came, and is noted of all disks.
pub record HasRead (dump : List ℕ) (number : ℕ) (start now : ShelfNow) (old new : List TalliedDisk)
    (passed passed' : List (Option Passed)) (here : Seen) : Type 0 where
  pub gave : GaveOf Single (dump ∷ []) (track_of_file number) 0 start now here
  pub whole : here.fault ≡ None
  pub passed_are : passed' ≡ passed ++ here.passed ∷ []
  pub noted : NoteFile old new (track_of_file number) here

-- All files came as tracks of the disks from a place on, where there are any there, and are noted
-- of these.
pub record HaveReadBehind (dump : List ℕ) (start now : ShelfNow) (place : ℕ)
    (old new : List TalliedDisk) (passed : List (Option Passed)) : Type 0 where
  pub behind : List TalliedDisk
  pub are : new ≡ take place old ++ behind
  pub came : List Seen
  pub read : HaveRead dump start now (drop place old) behind passed
      (files_for (length (drop place old))) came

-- whether a dump has a file of one of the disk's tracks
abbrev pub IsHeld : (dump : List ℕ) → (told : Option (List File)) → TalliedDisk → Bool → Type 0
IsHeld dump told disk true = IsToldEmpty (disk_as dump (candidate_in disk)) told None
IsHeld dump told disk false = IsEmptyAs dump told (candidate_in disk)

-- and of each of these
pub record AreHeld (dump : List ℕ) (told : Option (List File)) (disks : List TalliedDisk)
    (held : List Bool) : Type 0 where
  pub many : length held ≡ length disks
  pub each : (k : ℕ) (d : TalliedDisk) (b : Bool) → k < length disks
      → IsHeld dump told (get_or disks k d) (get_or held k b)

-- what a disk comes to, whatever all files of a dump are
pub record FindsOne (passed : List (Option Passed)) (disk : TalliedDisk) (held : Bool)
    (finding : Finding) : Type 0 where
  pub of : finding.candidate ≡ candidate_in disk
  pub comes : (dump : List ℕ) (told : Option (List File)) (came : List Seen)
      → passed ≡ passed_of came → AreOfDumps (of_files dump) told came → AreTallied disk came
      → IsHeld dump told disk held
      → ComesTo dump told came (candidate_in disk) finding.totals

-- all that is known of these disks where the files of the dump came in the reading of each
pub record AreKnown (dump : List ℕ) (told : Option (List File)) (came : ℕ → List Seen)
    (passed : ℕ → List (Option Passed)) (disks : List TalliedDisk) (held : List Bool) : Type 0 where
  pub passed_are : (k : ℕ) → passed k ≡ passed_of (came k)
  pub of : (k : ℕ) → AreOfDumps (of_files dump) told (came k)
  pub tallied : (k : ℕ) (d : TalliedDisk) → k < length disks
      → AreTallied (get_or disks k d) (came k)
  pub held_are : AreHeld dump told disks held

-- each file was noted of each disk, and whether the dump has one of its tracks
pub record AreAllNoted (passed : ℕ → List (Option Passed)) (disks : List TalliedDisk)
    (held : List Bool) : Type 0 where
  pub passed_many : (k : ℕ) → k < length disks → length (passed k) ≡ MOST_FILES
  pub tallies_many : All (λ disk. length disk.tallies ≡ MOST_FILES) disks
  pub held_many : length held ≡ length disks

-- The files came, and all is known of the disks of all candidates; and these name other heads.
pub record HaveTried (dump : List ℕ) (start now : ShelfNow) (passed again : List (Option Passed))
    (disks : List TalliedDisk) (held : List Bool) (foreign : List ForeignDisk) : Type 0 where
  pub files : AllCame dump start now
  pub first_are : passed ≡ passed_of files.came
  pub again_are : again ≡ passed_of files.again
  pub known : AreKnown dump start.told.files (came_for files) (by_reading passed again) disks held
  pub of : map candidate_in disks ≡ candidates_by files.numbers
  pub foreign_are : foreign ≡ files.numbers.foreign.items

-- what these disks come to, and their lines were written
pub record HaveTold (dump : List ℕ) (told : Option (List File)) (came : ℕ → List Seen)
    (disks : List TalliedDisk) (lines lines' : Option (List ℕ))
    (best : Option Finding) : Type 0 where
  pub findings : List Finding
  pub of : candidates_in findings ≡ map candidate_in disks
  pub are : AreFindings dump told came findings
  pub grew : Appends lines lines' (lines_of findings)
  pub best_is : best ≡ best_of findings

-- and the lines behind them
pub record HaveSaid (dump : List ℕ) (told : Option (List File)) (came : ℕ → List Seen)
    (disks : List TalliedDisk) (foreign : List ForeignDisk) (lines lines' : Option (List ℕ))
    (best : Option Finding) : Type 0 where
  pub findings : List Finding
  pub of : candidates_in findings ≡ map candidate_in disks
  pub are : AreFindings dump told came findings
  pub grew : Appends lines lines' (lines_of findings ++ end_text foreign (best_of findings))
  pub best_is : best ≡ best_of findings

-- of those a part was written
pub record CutEnd (dump : List ℕ) (told : Option (List File)) (came : ℕ → List Seen)
    (disks : List TalliedDisk) (foreign : List ForeignDisk)
    (lines lines' : Option (List ℕ)) : Type 0 where
  pub findings : List Finding
  pub of : candidates_in findings ≡ map candidate_in disks
  pub are : AreFindings dump told came findings
  pub grew : AppendsAndPart lines lines' (lines_of findings) (end_text foreign (best_of findings))

-- The lines of the first disks were written, and of the next one's a part.
pub record CutLine (dump : List ℕ) (told : Option (List File)) (came : ℕ → List Seen)
    (disks : List TalliedDisk) (lines lines' : Option (List ℕ)) : Type 0 where
  pub findings : List Finding
  pub next : Finding
  pub behind : List Candidate
  pub of : candidates_in (findings ++ next ∷ []) ++ behind ≡ map candidate_in disks
  pub are : AreFindings dump told came (findings ++ next ∷ [])
  pub grew : AppendsAndPart lines lines' (lines_of findings) (line_of next)

-- What the definition of what is said of a dump comes to.
use Rattle.std.specs.Prelude.{◌≡◌, ℕ, true, List, Option, Some}
use Rattle.flux_engine.specs.Plans.{Seen}
use Rattle.track_shelf.specs.Files.{File}
use Rattle.dump_reading.specs.DumpStreams.{FailedAlike}
use Rattle.dump_reading.specs.Files.{ShelfNow}
use Rattle.dump_reading.specs.Outcomes.{DumpDisk, DumpsRead, IsDumpsRead}
use Rattle.dump_reading.specs.Totals.{is_complete as are_complete}
use Rattle.dump_reading.specs.declared.looks.Looks.TheVariants.{Always}
use Rattle.dump_reading.specs.declared.totals.DumpTotals.{DumpTotals}
use Rattle.dump_identity.specs.Findings.{CameTo, disk_as, has_good, is_complete}
use Rattle.dump_identity.specs.Outcomes.{HasNoFiles, Identified, IsIdentified}
use Rattle.dump_identity.specs.declared.candidate.Candidate.{Candidate}
use Rattle.dump_identity.specs.declared.finding.Finding.{Finding}

-- a dump as a candidate's disk, by the clock that follows the drive alone, with all of its files
abbrev pub all_as : (dump : List ℕ) → Candidate → DumpDisk
all_as dump candidate = record (disk_as dump candidate) { looks = Always }

-- these are its numbers so
pub record IsOfAllFiles (dump : List ℕ) (told : Option (List File)) (candidate : Candidate)
    (totals : DumpTotals) : Type 0 where
  pub outcome : DumpsRead
  pub is : IsDumpsRead (all_as dump candidate) told outcome
  pub totals_are : totals ≡ outcome.totals

-- where a sector is good, so that there is a line, none of the dump's files is left out
abbrev pub LinesAreOfAllFiles : Type 0
LinesAreOfAllFiles =
    (dump : List ℕ) (told : Option (List File)) (came : List Seen) (candidate : Candidate)
    (totals : DumpTotals)
    → CameTo dump told came candidate totals
    → has_good (record { candidate = candidate; totals = Some totals }) ≡ true
    → IsOfAllFiles dump told candidate totals

-- so read, every sector is good, and no other name has data
pub record IsReadWhole (dump : List ℕ) (told : Option (List File))
    (candidate : Candidate) : Type 0 where
  pub outcome : DumpsRead
  pub is : IsDumpsRead (all_as dump candidate) told outcome
  pub whole : are_complete outcome.totals ≡ true

-- so it is where the best of all is complete
abbrev pub CompleteIsReadWhole : Type 0
CompleteIsReadWhole =
    (dump : List ℕ) (start now : ShelfNow) (o : Identified) → IsIdentified dump start now o
    → (best : Finding) → o.identity.best ≡ Some best → is_complete best ≡ true
    → IsReadWhole dump start.told.files best.candidate

-- The files, and which of them failed each time, decide what is said.
abbrev pub IdentitiesAreOne : Type 0
IdentitiesAreOne = (dump : List ℕ) (files : List File) (start now start' now' : ShelfNow)
    → start.told.files ≡ Some files → start'.told.files ≡ Some files
    → (a b : Identified) (one : IsIdentified dump start now a)
    (other : IsIdentified dump start' now' b)
    → FailedAlike one.files.came other.files.came
    → FailedAlike one.files.again other.files.again → a ≡ b

-- nothing is said of a dump without files
abbrev pub NoFilesAreNoIdentity : Type 0
NoFilesAreNoIdentity = (dump : List ℕ) (files : List File) (start start' now' : ShelfNow)
    → start.told.files ≡ Some files → start'.told.files ≡ Some files
    → (o : Identified) → HasNoFiles dump start.told.files → IsIdentified dump start' now' o → ⊥

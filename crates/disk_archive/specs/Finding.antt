-- Which disk of dumps is kept, and what its shelf did.
use Rattle.std.specs.Prelude.{◌≡◌, ◌<◌, ℕ, zero, suc, Bool, nat_lt, List, [], get_or, length}
use Rattle.std.specs.Prelude.{Option, Some, None}
use Rattle.dump_identity.specs.Outcomes.{HasNoFiles, Identified, IsIdentified}
use Rattle.dump_identity.specs.declared.candidate.Candidate.{Candidate}
use Rattle.dump_identity.specs.declared.finding.Finding.{Finding}
use Rattle.dump_identity.specs.declared.identity.Identity.{Identity}
use Rattle.dump_reading.specs.Files.{CountsMany, ShelfNow}
use Rattle.track_shelf.specs.Told.{with_failed}
use Rattle.disk_archive.specs.declared.asked.ArchiveAsked.{ArchiveAsked}
use Rattle.disk_archive.specs.declared.fault.ArchiveFault.{ArchiveFault}
use Rattle.disk_archive.specs.declared.fault.ArchiveFault.TheVariants.{Memory, NoDisk, NoFiles}
use Rattle.disk_archive.specs.declared.held.FoundDisk.{FoundDisk}

-- All that a shelf did is that so many files failed: none is open that was not.
pub record FailedOften (often : ℕ) (start now : ShelfNow) : Type 0 where
  pub paths : List (List ℕ)
  pub told : now.told ≡ with_failed paths start.told
  pub counts : CountsMany often start.counts now.counts

-- or some, or none
abbrev pub FailedSome : (start now : ShelfNow) → Type 0
FailedSome start now = (often : ℕ) × FailedOften often start now

-- and this says whether some did
pub record FailedIf (failed : Bool) (start now : ShelfNow) : Type 0 where
  pub often : ℕ
  pub shelf : FailedOften often start now
  pub is : failed ≡ nat_lt 0 often

-- what is asked: the disk and its steps, if they are named, the folder, and the dumps by their names
pub record Asked : Type 0 where
  pub disk : Option Candidate
  pub folder : List ℕ
  pub dumps : List (List ℕ)

abbrev pub asked_of : ArchiveAsked → Asked
asked_of asked =
    record { disk = asked.disk; folder = asked.folder.now; dumps = asked.dumps.now }

-- the name of the dump of a number
abbrev pub dump_at : (dumps : List (List ℕ)) → (number : ℕ) → List ℕ
dump_at dumps number = get_or dumps number []

-- what the dump is best explained by
pub record IsBest (dump : List ℕ) (start now : ShelfNow) (best : Option Finding) : Type 0 where
  pub identified : Identified
  pub is : IsIdentified dump start now identified
  pub best_is : identified.identity.best ≡ best

-- none of the first dumps, so many, has a best; they are asked in their order, and no other is
abbrev pub HaveNoBest : (dumps : List (List ℕ)) → (count : ℕ) → (start now : ShelfNow) → Type 0
HaveNoBest dumps zero start now = now ≡ start
HaveNoBest dumps (suc before) start now =
    (mid : ShelfNow) × HaveNoBest dumps before start mid
    × IsBest (dump_at dumps before) mid now None

-- This is the best of the first dump that has one.
pub record IsFirstBest (dumps : List (List ℕ)) (start now : ShelfNow)
    (best : Finding) : Type 0 where
  pub number : ℕ
  pub low : number < length dumps
  pub mid : ShelfNow
  pub before : HaveNoBest dumps number start mid
  pub is : IsBest (dump_at dumps number) mid now (Some best)

-- The dump of this number is the first that has no file at all, and none before it has a best.
pub record IsFirstLost (dumps : List (List ℕ)) (start now : ShelfNow)
    (number : ℕ) : Type 0 where
  pub low : number < length dumps
  pub before : HaveNoBest dumps number start now
  pub lacks : HasNoFiles (dump_at dumps number) start.told.files

-- what is said of one dump that was asked, and of one that was not
pub record IsAsked (dump : List ℕ) (start now : ShelfNow) (identity : Identity) : Type 0 where
  pub best : IsBest dump start now identity.best
  pub shelf : FailedIf identity.failed start now

abbrev pub IsUnasked : (number : ℕ) → (dump : List ℕ) → (start now : ShelfNow) → ArchiveFault
    → Type 0
IsUnasked number dump start now Memory = now ≡ start
IsUnasked number dump start now (NoFiles empty) =
    (empty.dump ≡ number) × HasNoFiles dump start.told.files × (now ≡ start)
IsUnasked number dump start now _ = ⊥

-- what is said of dumps of which one gives the disk, and of those of which none does
pub record HaveBest (dumps : List (List ℕ)) (start now : ShelfNow)
    (found : FoundDisk) : Type 0 where
  pub best : Finding
  pub is : IsFirstBest dumps start now best
  pub candidate_is : found.candidate ≡ best.candidate
  pub shelf : FailedIf found.failed start now

abbrev pub LacksBest : (dumps : List (List ℕ)) → (start now : ShelfNow) → ArchiveFault → Type 0
LacksBest dumps start now Memory = Unit {0}
LacksBest dumps start now (NoFiles empty) = IsFirstLost dumps start now empty.dump
LacksBest dumps start now NoDisk = HaveNoBest dumps (length dumps) start now
LacksBest dumps start now _ = ⊥

-- the disk that is asked for, and nothing is read for that; or the best of the first dump that has one
abbrev pub IsDiskBy : Option Candidate → (dumps : List (List ℕ)) → (start now : ShelfNow)
    → Candidate → Type 0
IsDiskBy (Some asked) dumps start now candidate = (candidate ≡ asked) × (now ≡ start)
IsDiskBy None dumps start now candidate =
    (best : Finding) × IsFirstBest dumps start now best × (candidate ≡ best.candidate)

abbrev pub IsDisk : Asked → (start now : ShelfNow) → Candidate → Type 0
IsDisk asked start now candidate = IsDiskBy asked.disk asked.dumps start now candidate

-- what is said of a disk that was found, and of one that was not
pub record HasFound (asked : Asked) (start now : ShelfNow) (found : FoundDisk) : Type 0 where
  pub disk : IsDisk asked start now found.candidate
  pub shelf : FailedIf found.failed start now

-- none is asked for, and of the dumps this is said
abbrev pub HasNotFound : Asked → (start now : ShelfNow) → ArchiveFault → Type 0
HasNotFound asked start now fault =
    (asked.disk ≡ None) × LacksBest asked.dumps start now fault × FailedSome start now

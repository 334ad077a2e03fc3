-- What `identify` does: each file of a dump is read on the shelf once as a track of each disk that has
-- a name, and once more as one of those that headers tell, where they tell one.
use Rattle.std.proofs.Common.{inr}
use Rattle.std.specs.Prelude.{◌≡◌, ◌⊎◌, ℕ, List, [], if◌then◌else◌, Option, Some, None}
use Rattle.dump_identity.specs.Findings.{is_complete}
use Rattle.dump_identity.specs.Outcomes.{HasNoFiles, Identified, IsIdentified, WroteIntoEnd}
use Rattle.dump_identity.specs.Outcomes.{WroteIntoLine}
use Rattle.dump_identity.specs.declared.finding.Finding.{Finding}
use Rattle.dump_identity.specs.declared.identity.Identity.{Identity}
use Rattle.dump_reading.specs.DumpStreams.{FailedAlike}
use Rattle.dump_reading.specs.Files.{ShelfNow}
use Rattle.flux_base.specs.declared.status.Status.{Status}
use Rattle.flux_base.specs.declared.status.Status.TheVariants.{AllGood, NotAllGood, ImageFault}
use Rattle.flux_base.specs.declared.status.Status.TheVariants.{NotesFault, ShelfFault}
use Rattle.flux_cli.specs.ShelfWork.{OneEmpty, dumps_work, empty_outcome}
use Rattle.flux_cli.specs.Work.{Growth, Outcome, GotNothing, GotPart, Work}

-- whether one disk explains all of the dump
abbrev pub best_status : Option Finding → Status
best_status None = NotAllGood
best_status (Some best) = if is_complete best then AllGood else NotAllGood

-- and no headers name other heads than the drive's
abbrev pub told_status : Identity → Status
told_status identity = if identity.foreign then NotAllGood else best_status identity.best

-- whether a file failed, and else that
abbrev pub identity_status : Identity → Status
identity_status identity = if identity.failed then ShelfFault else told_status identity

abbrev pub identity_outcome : Identified → Outcome
identity_outcome o = record { status = identity_status o.identity; image = o.lines; notes = [] }

-- the dump has no file, and the line on it
abbrev pub EmptyDump : (dump : List ℕ) → (start now : ShelfNow) → (line : List ℕ) → Type 0
EmptyDump dump start now line = OneEmpty (HasNoFiles dump start.told.files) dump start now line

-- what the dump comes to, by the files that are told, and what the shelf did
abbrev pub IsOutcomeOfDump : (dump : List ℕ) → (start now : ShelfNow) → Outcome → Type 0
IsOutcomeOfDump dump start now o =
    ((line : List ℕ) × EmptyDump dump start now line × (o ≡ empty_outcome line))
    ⊎ ((i : Identified) × IsIdentified dump start now i × (o ≡ identity_outcome i))

-- the same files failed in two readings of the dump
abbrev pub FailedAsIdentified : (dump : List ℕ) (start now start' now' : ShelfNow) (a b : Outcome)
    → IsOutcomeOfDump dump start now a → IsOutcomeOfDump dump start' now' b → Type 0
FailedAsIdentified dump start now start' now' a b (inr (i, is, same)) (inr (j, is', same')) =
    FailedAlike is.files.came is'.files.came
    × FailedAlike is.files.again is'.files.again
FailedAsIdentified dump start now start' now' a b _ _ = Unit {0}

-- what was written where a fault of a sink cut the work, by the status, which says whose it is
abbrev pub identity_cut : (dump : List ℕ) → Status → (start now : ShelfNow) → (image notes : Growth)
    → Type 0
identity_cut dump ImageFault start now image notes =
    (WroteIntoLine dump start now image.before image.after
    ⊎ WroteIntoEnd dump start now image.before image.after)
    × GotNothing notes
identity_cut dump NotesFault start now image notes =
    (line : List ℕ) × EmptyDump dump start now line × GotNothing image × GotPart notes line
identity_cut dump _ start now image notes = ⊥

abbrev pub identity_work : (dump : List ℕ) → Work ShelfNow
identity_work dump = dumps_work (IsOutcomeOfDump dump) (identity_cut dump)

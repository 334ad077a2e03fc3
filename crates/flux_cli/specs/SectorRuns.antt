-- What `show` does: the files of one track of a disk's dumps are read on the shelf, and what they
-- have of one sector is written.
use Rattle.std.proofs.Common.{inr}
use Rattle.std.specs.Prelude.{◌≡◌, ◌⊎◌, if◌then◌else◌, nat_eq, nat_lt, List}
use Rattle.flux_base.specs.declared.status.Status.{Status}
use Rattle.flux_base.specs.declared.status.Status.TheVariants.{AllGood, NotAllGood, ImageFault}
use Rattle.flux_base.specs.declared.status.Status.TheVariants.{NotesFault, ShelfFault}
use Rattle.dump_reading.specs.DumpStreams.{FailedAlike}
use Rattle.dump_reading.specs.Files.{ShelfNow}
use Rattle.sector_copies.specs.Laws.{AreReadingsOfCame}
use Rattle.sector_copies.specs.Shown.{HasShown, SectorAsked, SectorShown}
use Rattle.sector_copies.specs.declared.totals.SectorTotals.{SectorTotals}
use Rattle.turn_merge.specs.Readings.{NotedReading}
use Rattle.flux_cli.specs.ShelfWork.{CutInEmpty, IsEmptyOr, dumps_work}
use Rattle.flux_cli.specs.Work.{Growth, Outcome, Got, GotNothing, GotPart, Work}

-- whether a file failed, and else whether good readings of the sector hold one content
abbrev pub sector_status : SectorTotals → Status
sector_status totals =
    if nat_lt 0 totals.lost then ShelfFault
    else (if nat_eq totals.copies 1 then AllGood else NotAllGood)

abbrev pub sector_outcome : SectorShown → Outcome
sector_outcome o = record { status = sector_status o.totals; image = o.image; notes = o.notes }

-- The outcome, by the files that are told, and what the shelf did.
abbrev pub IsOutcomeOfSector : SectorAsked → (start now : ShelfNow) → Outcome → Type 0
IsOutcomeOfSector asked start now o = IsEmptyOr asked.disk start now
    (λ shown. (s : SectorShown) × HasShown asked start now s × (shown ≡ sector_outcome s)) o

-- the same files failed in two readings of the track
abbrev pub FailedAsShown : (asked : SectorAsked) (start now start' now' : ShelfNow) (a b : Outcome)
    → IsOutcomeOfSector asked start now a → IsOutcomeOfSector asked start' now' b → Type 0
FailedAsShown asked start now start' now' a b (inr (none, (s, shown, same)))
    (inr (none', (t, shown', same'))) = FailedAlike shown.is.came shown'.is.came
FailedAsShown asked start now start' now' a b _ _ = Unit {0}

-- these are all readings of the streams that came
abbrev pub ReadingsOfShown : (asked : SectorAsked) (start now : ShelfNow) (o : Outcome)
    → IsOutcomeOfSector asked start now o → (captures : List (List NotedReading)) → Type 0
ReadingsOfShown asked start now o (inr (none, (s, shown, same))) captures =
    AreReadingsOfCame asked shown.is.came captures
ReadingsOfShown asked start now o _ captures = Unit {0}

-- what was written where a fault of a sink cut the work, by the status, which says
-- whose it is: the notes come first
abbrev pub sector_cut : SectorAsked → Status → (start now : ShelfNow) → (image notes : Growth)
    → Type 0
sector_cut asked ImageFault start now image notes =
    (o : SectorShown) × HasShown asked start now o × GotPart image o.image × Got notes o.notes
sector_cut asked NotesFault start now image notes =
    ((o : SectorShown) × HasShown asked start now o × GotNothing image × GotPart notes o.notes)
    ⊎ CutInEmpty asked.disk start now image notes
sector_cut asked _ start now image notes = ⊥

abbrev pub sector_work : SectorAsked → Work ShelfNow
sector_work asked = dumps_work (IsOutcomeOfSector asked) (sector_cut asked)

-- What `read` does: the files of a disk's dumps are read on the shelf, one by one.
use Rattle.std.proofs.Common.{inr}
use Rattle.std.specs.Prelude.{◌≡◌, ◌⊎◌, if◌then◌else◌, nat_lt, List}
use Rattle.disk_map.specs.Dumps.{IsDumpsDrawn, StoppedInDumps}
use Rattle.dump_reading.specs.Beside.{beside_lines}
use Rattle.dump_reading.specs.DumpStreams.{FailedAlike}
use Rattle.dump_reading.specs.Files.{ShelfNow}
use Rattle.dump_reading.specs.Outcomes.{DumpDisk, DumpsRead, FilesFailed, IsDumpsRead}
use Rattle.dump_reading.specs.Outcomes.{StopsBy, WroteIntoEnd}
use Rattle.flux_engine.specs.declared.fault.Stopped.TheVariants.{ImageFault as Unwritten, NotesFault as Untold}
use Rattle.dump_reading.specs.Reports.{read_part}
use Rattle.dump_reading.specs.Totals.{is_complete}
use Rattle.dump_reading.specs.declared.totals.DumpTotals.{DumpTotals}
use Rattle.flux_base.specs.declared.status.Status.{Status}
use Rattle.flux_base.specs.declared.status.Status.TheVariants.{AllGood, NotAllGood, ImageFault}
use Rattle.flux_base.specs.declared.status.Status.TheVariants.{NotesFault, ShelfFault}
use Rattle.flux_engine.specs.Plans.{Seen}
use Rattle.flux_cli.specs.ShelfWork.{CutInEmpty, IsEmptyOr, dumps_work}
use Rattle.flux_cli.specs.Work.{Growth, Outcome, GotNothing, Work}
use Rattle.flux_words.specs.declared.options.Shown.{Shown}
use Rattle.flux_words.specs.declared.options.Shown.TheVariants.{Image, Picture}

-- whether a file failed, and else whether the image is all that can be read there
abbrev pub read_status : DumpTotals → Status
read_status totals =
    if nat_lt 0 totals.lost then ShelfFault
    else (if is_complete totals then AllGood else NotAllGood)

abbrev pub read_outcome : DumpsRead → Outcome
read_outcome d = record { status = read_status d.totals; image = d.image; notes = d.notes }

-- What the dumps come to, by what is shown of the verdicts, the image and the report or a picture;
-- all that the shelf did is that those files failed that are told so.
abbrev pub IsShown : Shown → DumpDisk → (start now : ShelfNow) → DumpsRead → Type 0
IsShown Image disk start now d = (is : IsDumpsRead disk start.told.files d)
    × FilesFailed disk start now is.streams is.beside.came
IsShown Picture disk start now d = (is : IsDumpsDrawn disk start.told.files d)
    × FilesFailed disk start now is.streams is.beside.came

-- The outcome, by the files that are told.
abbrev pub IsOutcomeOfDumps : Shown → DumpDisk → (start now : ShelfNow) → Outcome → Type 0
IsOutcomeOfDumps shown disk start now o = IsEmptyOr disk start now
    (λ read. (d : DumpsRead) × IsShown shown disk start now d × (read ≡ read_outcome d)) o

-- the streams that came of the dumps: of the format's tracks, and of those beside them
abbrev pub came_shown : (shown : Shown) (disk : DumpDisk) (start now : ShelfNow) (d : DumpsRead)
    → IsShown shown disk start now d → List Seen × List Seen
came_shown Image disk start now d shown = (shown.0.streams, shown.0.beside.came)
came_shown Picture disk start now d shown = (shown.0.streams, shown.0.beside.came)

abbrev pub AreFailedAlike : (a b : List Seen × List Seen) → Type 0
AreFailedAlike a b = FailedAlike a.0 b.0 × FailedAlike a.1 b.1

-- the same files failed in two readings of the dumps
abbrev pub FailedAsRead : (shown : Shown) (disk : DumpDisk) (start now start' now' : ShelfNow)
    (a b : Outcome)
    → IsOutcomeOfDumps shown disk start now a → IsOutcomeOfDumps shown disk start' now' b → Type 0
FailedAsRead shown disk start now start' now' a b (inr (none, (d, is, same)))
    (inr (none', (e, is', same'))) =
    AreFailedAlike (came_shown shown disk start now d is) (came_shown shown disk start' now' e is')
FailedAsRead shown disk start now start' now' a b _ _ = Unit {0}

-- what was written where a fault of a sink cut the work, by the status, which says whose it is
abbrev pub dumps_cut : Shown → DumpDisk → Status → (start now : ShelfNow) → (image notes : Growth)
    → Type 0
dumps_cut Image disk ImageFault start now image notes =
    StopsBy read_part beside_lines disk start now image.before image.after notes.before notes.after
    Unwritten
dumps_cut Image disk NotesFault start now image notes =
    (StopsBy read_part beside_lines disk start now image.before image.after notes.before notes.after
    Untold
    ⊎ WroteIntoEnd disk start now image.before image.after notes.before notes.after)
    ⊎ CutInEmpty disk start now image notes
dumps_cut Picture disk ImageFault start now image notes =
    StoppedInDumps disk start now image.before image.after × GotNothing notes
dumps_cut Picture disk NotesFault start now image notes = CutInEmpty disk start now image notes
dumps_cut _ disk _ start now image notes = ⊥

abbrev pub read_work : Shown → DumpDisk → Work ShelfNow
read_work shown disk = dumps_work (IsOutcomeOfDumps shown disk) (dumps_cut shown disk)

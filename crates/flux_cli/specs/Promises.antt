-- What is promised of a run between two moments of the world, beside what it did.
use Rattle.std.specs.Prelude.{◌≡◌, ℕ, List, Some, None}
use Rattle.dump_reading.specs.Files.{ShelfNow}
use Rattle.flux_base.specs.declared.status.Status.{Status}
use Rattle.flux_base.specs.declared.status.Status.TheVariants.{AllGood, ShelfFault}
use Rattle.flux_engine.specs.Plans.{decoding}
use Rattle.kryo_stream.specs.Reads.{SourceMoment}
use Rattle.sector_images.specs.declared.format.Format.{Format}
use Rattle.track_shelf.specs.Files.{File, first_missing, joined}
use Rattle.flux_words.specs.Asked.{Asked, some_streams, a_folder, some_dumps, a_trial}
use Rattle.flux_words.specs.Asked.{an_image_of_g64, written_files, split_streams}
use Rattle.flux_words.specs.CommandWords.{AreWordsOf}
use Rattle.flux_words.specs.G64Disks.{format_of}
use Rattle.flux_cli.specs.AskedDisks.{asked_disk}
use Rattle.flux_cli.specs.BytesWork.{BytesWork}
use Rattle.flux_cli.specs.FilesHeadline.{OfWritten}
use Rattle.flux_cli.specs.FilesWork.{files_of}
use Rattle.flux_cli.specs.G64Work.{from_g64_work}
use Rattle.flux_cli.specs.Headlines.{OfFile, OfShown, OfStreams, OfTrial}
use Rattle.flux_cli.specs.NotedWork.{OfNoted}
use Rattle.flux_cli.specs.PlanWork.{planned_work}
use Rattle.flux_cli.specs.ReadHeadline.{OfRead}
use Rattle.flux_cli.specs.Runs.{Does}
use Rattle.flux_cli.specs.ShelfWork.{ends_over_shelf}
use Rattle.flux_cli.specs.SplitHeadline.{OfSplit}
use Rattle.flux_cli.specs.SplitWork.{split_of}
use Rattle.flux_cli.specs.TrialWork.{trial_work}
use Rattle.flux_cli.specs.Work.{Outcome, Work}
use Rattle.flux_cli.specs.Works.{plan_of}
use Rattle.flux_cli.specs.World.{World, on_shelf, on_source}
use Rattle.flux_words.specs.declared.commands.Output.TheVariants.{ImageAndReport}

-- a row of which this is known: what the input comes to, and with which statuses a fault may
-- cut it, but not where
abbrev pub known : {V : Type 0} → (ends cuts : Status → Type 0)
    → ((start now : V) → Outcome → Type 0) → Work V
known ends cuts Known = record {
  ends = ends;
  gives = Known;
  cut = λ status start now image notes. cuts status;
  keeps = λ start now. Unit {0};
}

-- The reading of dumps is cut for the sake of a sink alone: files that fail cut nothing, and all
-- else is read and given.
abbrev pub by_sinks : Status → Type 0
by_sinks ShelfFault = ⊥
by_sinks _ = Unit {0}

-- whatever bytes the source tells
abbrev pub known_bytes : BytesWork → ((x : List ℕ) → Outcome → Type 0) → Work SourceMoment
known_bytes work Known =
    known work.ends work.ends (λ start now o. (x : List ℕ) → start.left ≡ Some x → Known x o)

-- all that is promised of `decode`, of `decode-folder`, where no file of the folder is missing:
-- whatever files the shelf tells
abbrev pub OfFolder : Format → (folder : List ℕ) → (start now : ShelfNow) → Outcome → Type 0
OfFolder format folder start now o = (files : List File) → start.told.files ≡ Some files
    → first_missing files folder format ≡ None
    → OfStreams decoding ImageAndReport format (joined files folder format) o

-- Or a counted fault cut it, or there was no memory to begin.
abbrev pub Expected : {S W N H M : Type 0} → Asked → Status → (before after : World S W N H M)
    → Type 0
-- From any streams that carry an image's written tracks, disturbed within the bounds, `decode`
-- writes exactly that image, every sector good, and `report` the report of it. So does
-- `decode-set`, over all captures, and `rescue` where the drive keeps its speed; else it calls such
-- a disk's sectors good with their own bytes, or contradictory. Beside erased stretches each keeps
-- the sectors that lie whole between them, and calls none contradictory. Of whatever is read a
-- sector's line that says good names a place of the capture and the clock that it names whose cells
-- hold the sector, with the bytes that the image has at its place.
Expected (some_streams asked) status before after =
    Does (known_bytes (planned_work (plan_of asked.way) asked.output asked.format)
    (OfShown (plan_of asked.way) asked.output asked.format)) status
    (on_source before) (on_source after)
Expected (a_folder format folder) status before after =
    Does (known ends_over_shelf ends_over_shelf (OfFolder format folder)) status
    (on_shelf before) (on_shelf after)
-- Of `read`, behind what is noted of dumps that are SCP files: each sector's line and its bytes are
-- those that all readings of the dumps bear out, and each line that has the text of a sector's
-- line, or of a stream's that is passed over, is that one. All is good exactly where each sector is
-- and no file that was looked at has, at any place, a header with a right check value that names
-- none of its track's sectors and whole data behind it, and none failed as it was noted. A sector
-- that is good by the strict rule in one dump is good with the same bytes or contradictory, and so
-- is one that a dump has whole, with its own bytes; it is good where the other files are captures
-- too or passed over and the drives kept their speed. A picture of them is that of such a report.
Expected (some_dumps asked) status before after =
    Does (known ends_over_shelf by_sinks
    (OfNoted (asked_disk asked).dumps (OfRead asked.shown (asked_disk asked)))) status
    (on_shelf before) (on_shelf after)
-- A file that was written of an image comes back by `from-g64`.
Expected (an_image_of_g64 disk) status before after =
    Does (known_bytes (from_g64_work (format_of disk)) (OfFile (format_of disk))) status
    (on_source before) (on_source after)
-- A trial of a number without a hole prints the line that is known beforehand.
Expected (a_trial format seed) status before after =
    Does (known_bytes (trial_work format seed) (λ x. OfTrial format seed)) status
    (on_source before) (on_source after)
-- Where `write --folder` made all files they are a dump that captures the image: where it is read
-- each sector is good, with its own bytes, whatever else lies there.
Expected (written_files format folder) status before after =
    status ≡ AllGood → OfWritten (files_of format folder) before.source.seen.left before.maker.made
    after.maker.made
-- Where `split` made all files they are the input, one after another, but for padding.
Expected (split_streams folder heads) status before after =
    status ≡ AllGood → OfSplit (split_of folder heads) before.source.seen.left before.maker.made
    after.maker.made
-- Of all others their rows say all.
Expected _ status before after = Unit {0}

-- whatever the words ask for
abbrev pub Promises : {S W N H M : Type 0} → (words : List (List ℕ)) → Status
    → (before after : World S W N H M) → Type 0
Promises words status before after =
    (asked : Asked) → AreWordsOf asked words → Expected asked status before after

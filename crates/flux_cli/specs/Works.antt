-- What there is to do for the words: a row for each command, and one for words that are none.
use Rattle.std.specs.Prelude.{◌≡◌, ℕ, List, [], ◌∷◌, Option, Some, None}
use Rattle.dump_reading.specs.Files.{ShelfNow}
use Rattle.flux_base.specs.declared.status.Status.{Status}
use Rattle.flux_base.specs.declared.status.Status.TheVariants.{Usage, NotesFault}
use Rattle.flux_engine.specs.Plans.{decoding, rescuing, set_plan}
use Rattle.flux_help.specs.WrongWords.{wrong_text}
use Rattle.flux_engine.specs.declared.plan.Plan.{Plan}
use Rattle.sector_images.specs.declared.format.Format.{Format}
use Rattle.flux_words.specs.Asked.{Asked, the_turns, some_streams, a_folder, some_dumps, a_sector}
use Rattle.flux_words.specs.Asked.{an_identity, told_files, written_streams, a_trial, a_g64_file}
use Rattle.flux_words.specs.Asked.{an_archive, an_image_of_g64, an_imd_file, a_page}
use Rattle.flux_words.specs.Asked.{written_files, split_streams, unpacked_file}
use Rattle.flux_words.specs.CommandWords.{AskFor}
use Rattle.flux_words.specs.declared.commands.Way.{Way}
use Rattle.flux_words.specs.declared.commands.Way.TheVariants.{Once, Often, ByBothClocks}
use Rattle.disk_archive.specs.Finding.{Asked as Kept}
use Rattle.flux_cli.specs.AskedDisks.{asked_disk, kept_disk, shown_sector}
use Rattle.flux_cli.specs.BytesWork.{BytesWork}
use Rattle.flux_cli.specs.IdentityRuns.{identity_work}
use Rattle.flux_cli.specs.ImdRuns.{imd_work}
use Rattle.flux_cli.specs.InfoRuns.{info_work}
use Rattle.flux_cli.specs.ReadRuns.{read_work}
use Rattle.flux_cli.specs.SectorRuns.{sector_work}
use Rattle.flux_words.specs.G64Disks.{format_of}
use Rattle.flux_cli.specs.FilesWork.{files_work}
use Rattle.flux_cli.specs.G64Work.{from_g64_work, to_g64_work}
use Rattle.flux_cli.specs.ImagesWork.{write_work}
use Rattle.flux_cli.specs.MakingWork.{MakingWork}
use Rattle.flux_cli.specs.NotedWork.{noted_work}
use Rattle.flux_cli.specs.PlanWork.{planned_work}
use Rattle.flux_cli.specs.PagesWork.{page_work}
use Rattle.flux_cli.specs.SplitWork.{split_work}
use Rattle.flux_cli.specs.TrialWork.{trial_work}
use Rattle.flux_cli.specs.TurnsWork.{turns_work}
use Rattle.flux_cli.specs.Work.{Outcome, Growth, GotNothing, GotPart, Work}

-- nothing is read, and the notes get a text
abbrev pub usage_ends : Status → Type 0
usage_ends Usage = Unit {0}
usage_ends NotesFault = Unit {0}
usage_ends _ = ⊥

abbrev pub usage_leaves : Status → (x later : List ℕ) → Type 0
usage_leaves Usage x later = later ≡ x
usage_leaves _ x later = ⊥

abbrev pub usage_cut : List ℕ → Status → (taken later : List ℕ) → (image notes : Growth) → Type 0
usage_cut text NotesFault taken later image notes =
    (taken ≡ []) × GotNothing image × GotPart notes text
usage_cut text _ taken later image notes = ⊥

abbrev pub usage_work : List ℕ → BytesWork
usage_work text = record {
  ends = usage_ends;
  gives = λ x o. o ≡ record { status = Usage; image = []; notes = text };
  untold = λ x. ⊥;
  leaves = usage_leaves;
  cut = usage_cut text;
}

-- What there is to do: with the bytes of the source, with the files of the shelf, with those of a
-- folder there; or, to make files, with the bytes of the source and what makes them, with a file of
-- the shelf, which is unpacked, or with the files of dumps, of which all is kept.
pub data Row : Type 1 where
  with_bytes : BytesWork → Row
  with_files : Work ShelfNow → Row
  with_folder : Format → (folder : List ℕ) → Row
  with_maker : MakingWork → Row
  with_unpacking : (file folder : List ℕ) → Row
  with_keeping : Kept → Row

-- by what plan streams are read
abbrev pub plan_of : Way → Plan
plan_of Once = decoding
plan_of (Often count) = set_plan count
plan_of ByBothClocks = rescuing

-- the row of what is asked
abbrev pub row_of : Asked → Row
row_of the_turns = with_bytes turns_work
row_of (some_streams asked) =
    with_bytes (planned_work (plan_of asked.way) asked.output asked.format)
row_of (a_folder format folder) = with_folder format folder
row_of (some_dumps asked) =
    with_files (noted_work (asked_disk asked).dumps (read_work asked.shown (asked_disk asked)))
row_of (a_sector asked) = with_files (sector_work (shown_sector asked))
row_of (an_identity dump) = with_files (identity_work dump)
row_of (told_files dump) = with_files (noted_work (dump ∷ []) (info_work dump))
row_of (an_imd_file asked) =
    with_files (noted_work asked.dumps
    (imd_work (record { stepping = asked.stepping; names = asked.dumps })))
row_of (written_streams format) = with_bytes (write_work format)
row_of (written_files format folder) = with_maker (files_work format folder)
row_of (split_streams folder heads) = with_maker (split_work folder heads)
row_of (unpacked_file file folder) = with_unpacking file folder
row_of (an_archive asked) = with_keeping (kept_disk asked)
row_of (a_trial format seed) = with_bytes (trial_work format seed)
row_of (a_g64_file disk) = with_bytes (to_g64_work (format_of disk))
row_of (an_image_of_g64 disk) = with_bytes (from_g64_work (format_of disk))
row_of (a_page page) = with_bytes (page_work page)

-- and where the words are no command: they are told what is wrong with them
abbrev pub row_for : List (List ℕ) → Option Asked → Row
row_for words None = with_bytes (usage_work (wrong_text words))
row_for words (Some asked) = row_of asked

-- this is the outcome of the row over the input
abbrev pub GivesOf : Row → List ℕ → Outcome → Type 0
GivesOf (with_bytes work) x o = work.gives x o
GivesOf _ x o = ⊥

-- and of the words, where they do not ask for what is on the shelf, or for files
abbrev pub IsOutcome : List (List ℕ) → List ℕ → Outcome → Type 0
IsOutcome words x o =
    (asked : Option Asked) × AskFor words asked × GivesOf (row_for words asked) x o

-- From the outcome of `read` to what is known of it.
use Rattle.std.proofs.Common.{◌≡◌, ◌≤◌, ℕ, List, [], get_or, length, Option, Some, inl, inr, sym, ap, ◌∙◌, subst}
use Rattle.disk_map.specs.Dumps.{IsDumpsDrawn, PicturesOfDumpsShowReports, ShowsReport}
use Rattle.dump_reading.specs.Outcomes.{DumpDisk, DumpsRead, FilesFailed, IsDumpsRead}
use Rattle.law_captured_dumps.specs.Headline.{CapturedDumpsAreNeverWrong, SteadyDumpsAreReadWell}
use Rattle.law_read_dumps.specs.Complete.{CompleteIsAll}
use Rattle.law_read_dumps.specs.Lines.{EachIsSaid, OtherFilesAreSaid, PassedStreamsAreSaid, ReportsHaveNoOtherLines}
use Rattle.law_read_dumps.specs.Said.{BesideStreamsAreOfFiles, GoodStaysOrIsContradicted, SaidIsRight, StreamsAreOfFiles, came_in}
use Rattle.law_reported_dumps.specs.Told.{LinesTell, NoSectorIsToldTwice, PassedLinesAreTold}
use Rattle.flux_cli.specs.EmptyText.{empty_text}
use Rattle.track_shelf.specs.Files.{File}
use Rattle.flux_engine.specs.Plans.{Seen}
use Rattle.flux_cli.specs.ReadHeadline.{OfDumps, GivesEmpty, GivesShown, OfRead}
use Rattle.flux_cli.specs.ReadRuns.{IsShown, IsOutcomeOfDumps, read_outcome}
use Rattle.flux_cli.specs.ShelfWork.{FirstEmpty, TellsEmpty, empty_outcome}
use Rattle.flux_cli.specs.Work.{Outcome}
use Rattle.flux_words.specs.declared.options.Shown.{Shown}
use Rattle.flux_words.specs.declared.options.Shown.TheVariants.{Image, Picture}
use Rattle.dump_reading.specs.Files.{ShelfNow}

-- what the laws of dumps promise
pub record DumpLaws : Type 0 where
  pub said : EachIsSaid
  pub of_files : StreamsAreOfFiles
  pub of_files_beside : BesideStreamsAreOfFiles
  pub right : SaidIsRight
  pub told : LinesTell
  pub once : NoSectorIsToldTwice
  pub passed : PassedStreamsAreSaid
  pub passed_beside : OtherFilesAreSaid
  pub passed_told : PassedLinesAreTold
  pub count : ReportsHaveNoOtherLines
  pub complete : CompleteIsAll
  pub stays : GoodStaysOrIsContradicted
  pub whole : CapturedDumpsAreNeverWrong
  pub steady : SteadyDumpsAreReadWell
  pub pictures : PicturesOfDumpsShowReports

-- what was read of dumps
of_dumps : DumpLaws → (disk : DumpDisk) (files : List File) → length disk.dumps ≤ 16 → (d : DumpsRead) → IsDumpsRead disk (Some files) d → OfDumps disk files d
of_dumps laws disk files few d read = record {
  is = read;
  of_files = laws.of_files disk files d read;
  of_files_beside = laws.of_files_beside disk files d read;
  said = laws.said disk (Some files) d read;
  right = laws.right disk (came_in read) d;
  told = laws.told disk files d read few;
  once = laws.once disk files d read few;
  passed = laws.passed disk (Some files) d read;
  passed_beside = laws.passed_beside disk (Some files) d read;
  passed_told = laws.passed_told disk files d read few;
  count = laws.count disk (Some files) d read;
  complete = laws.complete disk (Some files) d read;
  stays = laws.stays disk (came_in read) d;
  whole = λ image is. laws.whole disk files image d is read;
  steady = λ image is. laws.steady disk files image d is read;
}

module _ (laws : DumpLaws) (disk : DumpDisk) (files : List File) (few : length disk.dumps ≤ 16) (start now : ShelfNow) (told : start.told.files ≡ Some files) where
  -- what was read is as the laws say, and the shelf did what is told
  gives_shown : (shown : Shown) (o : Outcome) (d : DumpsRead) → IsShown shown disk start now d → o ≡ read_outcome d → GivesShown shown disk files start now o
  unfolding of_dumps
  gives_shown Image o d read is =
      let here : (is : IsDumpsRead disk (Some files) d) × FilesFailed disk start now is.streams is.beside.came =
      subst (λ (t : Option (List File)). (is : IsDumpsRead disk t d) × FilesFailed disk start now is.streams is.beside.came) told read in
      record { read = d; is = is; holds = of_dumps laws disk files few d here.0; shelf = here.1 }
  gives_shown Picture o d drawn is =
      let here : (is : IsDumpsDrawn disk (Some files) d) × FilesFailed disk start now is.streams is.beside.came =
      subst (λ (t : Option (List File)). (is : IsDumpsDrawn disk t d) × FilesFailed disk start now is.streams is.beside.came) told drawn in
      let shows : ShowsReport disk (Some files) d here.0 = laws.pictures disk (Some files) d here.0 in
      record {
        drawn = d;
        drawn_is = here.0;
        is = is;
        notes_are = ap (λ (o : DumpsRead). o.notes) here.0.is;
        shows = shows;
        holds = of_dumps laws disk files few shows.report shows.read;
        shelf =
            subst (λ (streams : List Seen). FilesFailed disk start now streams shows.read.beside.came) (sym shows.streams)
            (subst (λ (beside : List Seen). FilesFailed disk start now here.0.streams beside) (sym shows.beside) here.1);
      }

  gives_empty : (line : List ℕ) (o : Outcome) → FirstEmpty disk start.told.files line → o ≡ empty_outcome line → GivesEmpty disk files o
  gives_empty line o first is =
      let tells : TellsEmpty (Some files) disk.dumps first.number line = subst (λ (t : Option (List File)). TellsEmpty t disk.dumps first.number line) told first.tells in
      record {
        number = first.number;
        low = first.low;
        first = first.is files told;
        is = is ∙ ap empty_outcome (tells.is ∙ ap (empty_text first.number (get_or disk.dumps first.number [])) tells.kind_is);
      }

-- the outcome of `read` is as expected
pub of_read : DumpLaws → (shown : Shown) (disk : DumpDisk) → length disk.dumps ≤ 16 → (start now : ShelfNow) (o : Outcome) → IsOutcomeOfDumps shown disk start now o
    → OfRead shown disk start now o
of_read laws shown disk few start now o (inl (line, first, still, is)) files told = inl (gives_empty laws disk files few start now told line o first is)
of_read laws shown disk few start now o (inr (none, (d, read, is))) files told = inr (gives_shown laws disk files few start now told shown o d read is)

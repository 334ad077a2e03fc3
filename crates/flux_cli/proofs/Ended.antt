-- What a command did, by what its work answered and how that ended.
use Rattle.std.proofs.Common.{◌≡◌, ◌==◌, ◌≤◌, ℕ, false, List, [], Some, Result, Ok, Err, refl, arith}
use Rattle.std.proofs.KnownBytes.{Appends-nil, Consumes-nil, Keeps-refl}
use Rattle.std.specs.List.{slice_get}
use Rattle.flux_base.specs.Moments.{Moment, Puts}
use Rattle.flux_base.specs.declared.track.TrackId.{TrackId}
use Rattle.flux_base.specs.declared.outside.Failed.{Failed}
use Rattle.flux_base.specs.declared.status.Status.{Status}
use Rattle.flux_base.specs.declared.status.Status.TheVariants.{AllGood, ReadFault, ImageFault, NotesFault}
use Rattle.flux_engine.specs.Writes.{Answer as ImageAnswer, WriteCause, WritesMade}
use Rattle.flux_engine.specs.lemmas.ReadLaws.{no_reads}
use Rattle.flux_help.specs.Pages.{page_text}
use Rattle.flux_help.specs.declared.page.Page.{Page}
use Rattle.flux_trial.specs.Tracks.{IsTrialLine}
use Rattle.flux_engine.specs.declared.write_fault.WriteFault.TheVariants.{WrongSize, ReadFault as ImageUnread, ImageFault as ImageUnwritten}
use Rattle.g64_image.specs.Answers.{FromAnswer, FromCause, ReadsFile}
use Rattle.g64_image.specs.Lines.{g64_text}
use Rattle.flux_engine.specs.declared.fault.Stopped.TheVariants.{Refused as FileRefused, ReadFault as FileUnread, ImageFault as FileUnwritten, NotesFault as FileUntold}
use Rattle.index_turns.specs.Track.{TrackState}
use Rattle.kryo_stream.specs.Outcome.{IsRead}
use Rattle.kryo_stream.specs.declared.fault.StreamFault.{StreamFault}
use Rattle.kryo_stream.specs.declared.fault.TrackFault.TheVariants.{Refused as StreamRefused}
use Rattle.sector_images.specs.Places.{tracks}
use Rattle.sector_images.specs.declared.format.Format.{Format}
use Rattle.sector_report.specs.Lines.{image_text, refused_text}
use Rattle.track_shelf.specs.Names.{missing_text}
use Rattle.flux_cli.proofs.EndingLaws.{ends-refused, ends-with}
use Rattle.flux_cli.proofs.G64Run.{file-cut-image, file-cut-notes, file-cut-read, file-cut-refusal, file-does, file-finish, file-refuse}
use Rattle.flux_cli.proofs.ImagesRun.{image-cut-image, image-cut-notes, image-cut-read, image-finish, image-refuse}
use Rattle.flux_cli.proofs.PagesRun.{page-cut, page-finish}
use Rattle.flux_cli.proofs.TrialRun.{trial-cut, trial-finish}
use Rattle.flux_cli.proofs.TurnsRun.{turns-cut-notes, turns-refuse}
use Rattle.flux_cli.specs.Endings.{EndsBy, file_ending, image_ending, refuses, written_status}
use Rattle.flux_cli.specs.FolderRuns.{RefusesMissing}
use Rattle.flux_words.specs.G64Disks.{format_of}
use Rattle.flux_cli.specs.G64Work.{from_g64_work}
use Rattle.flux_cli.specs.ImagesWork.{image_work}
use Rattle.flux_cli.specs.PagesWork.{page_work}
use Rattle.flux_cli.specs.PlanWork.{status_of}
use Rattle.flux_cli.specs.Runs.{Does, growth}
use Rattle.flux_cli.specs.TrialWork.{trial_work}
use Rattle.flux_cli.specs.TurnsWork.{turns_work}
use Rattle.flux_cli.specs.World.{Outside, outside, InputMoment}
use Rattle.flux_words.specs.declared.g64_disk.G64Disk.{G64Disk}
use Rattle.dump_reading.specs.Files.{ShelfNow}
use Rattle.kryo_stream.specs.Reads.{SourceMoment}
use Rattle.flux_cli.specs.BytesWork.{of_bytes, WasReadWhereNeeded}

-- a stream that was refused; nothing was written of it
pub turns-refused : {S W N : Type 0} (before : Outside S SourceMoment W N) (source : InputMoment S SourceMoment) (status : Status)
    (held' : List ℕ) (flux : TrackState) (block : ℕ) (fault : StreamFault) (after : Moment N)
    → IsRead before.input.seen.left source.seen.left false [] held' flux (Err (StreamRefused block fault))
    → WasReadWhereNeeded turns_work before.input.seen source.seen → EndsBy (refuses (refused_text 0 block fault)) status before.notes after
    → Does (of_bytes turns_work) status before (outside source before.image after)
turns-refused {N = N} before source status held' flux block fault after read needed is =
    ends-refused (λ (s : Status) (n : Moment N). Does (of_bytes turns_work) s before (outside source before.image n)) (refused_text 0 block fault) status before.notes after
    (λ line later. record {
      answer = tt;
      says = turns-refuse before (outside source before.image after) held' flux block fault read (Appends-nil before.image.bytes) line;
      keeps = needed;
    })
    (λ part later rose. record {
      answer = tt;
      says = (turns-cut-notes before.input.seen source.seen (growth before.image before.image) (growth before.notes after) held' flux block fault read (Appends-nil before.image.bytes) part, rose);
      keeps = needed;
    }) is

-- a page
pub page-ended : {S W N : Type 0} (before : Outside S SourceMoment W N) (image : Moment W) (page : Page) (answer : Result (Unit {0}) Failed)
    → Puts before.image image (page_text page) answer → Does (of_bytes (page_work page)) (written_status answer) before (outside before.input image before.notes)
page-ended before image page (Ok u) puts = record {
  answer = tt;
  says = page-finish page before (outside before.input image before.notes) (Consumes-nil before.input.seen.left) puts.ok (Appends-nil before.notes.bytes);
  keeps = λ x told. no_reads (page_work page).untold _;
}
page-ended before image page (Err failed) puts = record {
  answer = tt;
  says = (
    page-cut page before (outside before.input image before.notes) (Consumes-nil before.input.seen.left) puts.err (Keeps-refl before.notes.bytes),
    puts.counts.cause,
  );
  keeps = λ x told. no_reads (page_work page).untold _;
}

-- the line of a trial
pub trial-ended : {S W N : Type 0} (before : Outside S SourceMoment W N) (image : Moment W) (format : Format) (seed : ℕ) (line : List ℕ) → IsTrialLine format seed line
    → (answer : Result (Unit {0}) Failed) → Puts before.image image line answer
    → Does (of_bytes (trial_work format seed)) (written_status answer) before (outside before.input image before.notes)
trial-ended before image format seed line is (Ok u) puts = record {
  answer = tt;
  says = trial-finish format seed before (outside before.input image before.notes) (Consumes-nil before.input.seen.left) line is puts.ok (Appends-nil before.notes.bytes);
  keeps = λ x told. no_reads (trial_work format seed).untold _;
}
trial-ended before image format seed line is (Err failed) puts = record {
  answer = tt;
  says = (
    trial-cut format seed before (outside before.input image before.notes) (Consumes-nil before.input.seen.left) line is puts.err (Keeps-refl before.notes.bytes),
    puts.counts.cause,
  );
  keeps = λ x told. no_reads (trial_work format seed).untold _;
}

-- over the source: what became of it and of the image, of the notes by the work, and of the notes at last
module _ {S W N : Type 0} (before : Outside S SourceMoment W N) (source : InputMoment S SourceMoment) (image : Moment W) (status : Status) where
  -- a file that was read
  pub file-ended : (disk : G64Disk) (answer : FromAnswer) (mid after : Moment N) → before.notes.counts.faults ≤ mid.counts.faults
      → WasReadWhereNeeded (from_g64_work (format_of disk)) before.input.seen source.seen
      → ReadsFile (format_of disk) before.input.seen.left source.seen.left before.image.bytes image.bytes before.notes.bytes mid.bytes answer
      → FromCause before.input.counts.faults source.counts.faults before.image.counts.faults image.counts.faults before.notes.counts.faults mid.counts.faults answer
      → EndsBy (file_ending answer) status mid after → Does (of_bytes (from_g64_work (format_of disk))) status before (outside source image after)
  file-ended disk (Ok totals) mid after fell needed f cause is =
      ends-with (λ (s : Status) (n : Moment N). Does (of_bytes (from_g64_work (format_of disk))) s before (outside source image n)) (status_of totals) status mid after
      (file-does disk before (outside source image mid) (totals.good == totals.sectors)
      (file-finish (format_of disk) before (outside source image mid) totals f) needed) is
  file-ended disk (Err FileUnread) mid after fell needed f cause is =
      ends-with (λ (s : Status) (n : Moment N). Does (of_bytes (from_g64_work (format_of disk))) s before (outside source image n)) ReadFault status mid after
      (record { answer = tt; says = (file-cut-read (format_of disk) before (outside source image mid) f, cause); keeps = needed }) is
  file-ended disk (Err FileUnwritten) mid after fell needed f cause is =
      ends-with (λ (s : Status) (n : Moment N). Does (of_bytes (from_g64_work (format_of disk))) s before (outside source image n)) ImageFault status mid after
      (record { answer = tt; says = (file-cut-image (format_of disk) before (outside source image mid) f, cause); keeps = needed }) is
  file-ended disk (Err FileUntold) mid after fell needed f cause is =
      ends-with (λ (s : Status) (n : Moment N). Does (of_bytes (from_g64_work (format_of disk))) s before (outside source image n)) NotesFault status mid after
      (record { answer = tt; says = (file-cut-notes (format_of disk) before (outside source image mid) f, cause); keeps = needed }) is
  file-ended disk (Err (FileRefused fault)) mid after fell needed f cause is =
      ends-refused (λ (s : Status) (n : Moment N). Does (of_bytes (from_g64_work (format_of disk))) s before (outside source image n)) (g64_text fault) status mid after
      (λ line later. record {
        answer = tt;
        says = file-refuse (format_of disk) before (outside source image after) mid.bytes fault f line;
        keeps = needed;
      })
      (λ part later rose. record {
        answer = tt;
        says = (file-cut-refusal (format_of disk) before (outside source image after) mid.bytes fault f part.0 part.1 part.2, omega (arith, fell, rose));
        keeps = needed;
      }) is

  -- what is made of an image; the work did not touch the notes
  module _ (after : Moment N) (made_of : List ℕ → List ℕ) (format : Format) (needed : WasReadWhereNeeded (image_work made_of format) before.input.seen source.seen) where
    abbrev Made : Status → Moment N → Type 0
    Made s n = Does (of_bytes (image_work made_of format)) s before (outside source image n)

    pub image-ended : (answer : ImageAnswer) → WritesMade made_of format before.input.seen.left source.seen.left before.image.bytes image.bytes answer
        → WriteCause before.input.counts.faults source.counts.faults before.image.counts.faults image.counts.faults answer
        → EndsBy (image_ending answer) status before.notes after
        → Does (of_bytes (image_work made_of format)) status before (outside source image after)
    image-ended (Ok _) w cause is = ends-with Made AllGood status before.notes after (record {
      answer = tt;
      says = image-finish made_of format before (outside source image before.notes) w.taken w.consumed w.says.0 w.says.1 (Appends-nil before.notes.bytes);
      keeps = needed;
    }) is
    image-ended (Err ImageUnread) w cause is = ends-with Made ReadFault status before.notes after (record {
      answer = tt;
      says = (image-cut-read made_of format before (outside source image before.notes) w.taken w.consumed w.says.0 w.says.1 (Keeps-refl before.notes.bytes), cause);
      keeps = needed;
    }) is
    image-ended (Err ImageUnwritten) w cause is = ends-with Made ImageFault status before.notes after (record {
      answer = tt;
      says = (image-cut-image made_of format before (outside source image before.notes) w.taken w.consumed w.says.0 w.says.1 (Appends-nil before.notes.bytes), cause);
      keeps = needed;
    }) is
    image-ended (Err (WrongSize read wanted)) w cause is = ends-refused Made (image_text read wanted) status before.notes after
        (λ line later. record {
          answer = tt;
          says = image-refuse made_of format before (outside source image after) w.taken w.consumed read wanted w.says.0 w.says.1 w.says.2 w.says.3 line;
          keeps = needed;
        })
        (λ part later rose. record {
          answer = tt;
          says = (image-cut-notes made_of format before (outside source image after) w.taken w.consumed read wanted w.says.0 w.says.1 w.says.2 w.says.3 part, rose);
          keeps = needed;
        }) is

-- a folder that lacks a file
pub missing-refused : {H W N : Type 0} (shelf : InputMoment H ShelfNow) (image : Moment W) (mid after : Moment N) (status : Status) (format : Format) (number : ℕ) (track : TrackId)
    → slice_get (tracks format) number ≡ Some track → EndsBy (refuses (missing_text number track)) status mid after
    → RefusesMissing format number status (outside shelf image mid) (outside shelf image after)
missing-refused {N = N} shelf image mid after status format number track at is =
    ends-refused (λ (s : Status) (n : Moment N). RefusesMissing format number s (outside shelf image mid) (outside shelf image n)) (missing_text number track) status mid after
    (λ line later. record { track = track; is = at; says = line; untouched = refl; later = later })
    (λ part later rose. record { track = track; is = at; says = (part, rose); untouched = refl; later = later }) is

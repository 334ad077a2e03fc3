-- What keeping a disk may answer, and what that says of its dumps, of the files that are made, and of
-- the line that is written.
use Rattle.std.specs.Prelude.{◌≡◌, ◌<◌, ◌⊎◌, ℕ, Bool, true, false, if◌then◌else◌, List}
use Rattle.std.specs.Prelude.{length, Option, Some, None, Result, Ok, Err}
use Rattle.disk_summary.specs.Texts.{summary_text}
use Rattle.disk_summary.specs.declared.note.Note.{Note}
use Rattle.disk_summary.specs.declared.summary.Summary.{Summary}
use Rattle.dump_identity.specs.declared.candidate.Candidate.{Candidate}
use Rattle.dump_reading.specs.Files.{ShelfNow}
use Rattle.dump_reading.specs.Outcomes.{DumpDisk, IsToldEmpty}
use Rattle.dump_reading.specs.Totals.{is_complete}
use Rattle.dump_reading.specs.declared.looks.Looks.TheVariants.{Always}
use Rattle.dump_reading.specs.declared.totals.DumpTotals.{DumpTotals}
use Rattle.file_maker.specs.Made.{Made, has_folder}
use Rattle.flux_base.specs.Blames.{Blame, no_one, the_image, the_source}
use Rattle.flux_base.specs.declared.status.Status.{Status}
use Rattle.flux_base.specs.declared.status.Status.TheVariants.{AllGood, NotAllGood, ShelfFault}
use Rattle.flux_engine.specs.declared.plan.Clocks.TheVariants.{Both}
use Rattle.disk_archive.specs.Finding.{Asked, FailedIf, FailedOften, FailedSome, HaveNoBest}
use Rattle.disk_archive.specs.Finding.{IsDisk, IsFirstLost}
use Rattle.disk_archive.specs.Kept.{Kept, kept_of}
use Rattle.disk_archive.specs.Making.{WritesKept}
use Rattle.disk_archive.specs.Reading.{DrewAllNoted, WroteBehindNotes}
use Rattle.disk_archive.specs.declared.fault.ArchiveFault.{ArchiveFault}
use Rattle.disk_archive.specs.declared.fault.ArchiveFault.TheVariants.{Exists, FileFault, FolderFault}
use Rattle.disk_archive.specs.declared.fault.ArchiveFault.TheVariants.{Memory, NoDisk, NoFiles}
use Rattle.disk_archive.specs.declared.fault.ArchiveFault.TheVariants.{OutputFault}
use Rattle.disk_archive.specs.declared.held.HeldDisk.{HeldDisk}

-- whether a file failed, and else whether the image is all that can be read there
abbrev pub status_of : (failed : Bool) → DumpTotals → Status
status_of failed totals =
    if failed then ShelfFault else (if is_complete totals then AllGood else NotAllGood)

-- the dumps as a disk, read as `read` does: by both clocks, and with all files beside its tracks
abbrev pub disk_as : Asked → Candidate → DumpDisk
disk_as asked candidate = record {
  stepping = candidate.stepping;
  dumps = asked.dumps;
  format = candidate.format;
  clocks = Both;
  looks = Always;
}

abbrev pub candidate_of : Summary → Candidate
candidate_of summary = record { stepping = summary.stepping; format = summary.format }

-- What is kept: the disk was found, and read once, for its image and report, which begins with what is
-- noted of SCP files, and for its picture and the notes of its summary, to which its files were
-- measured. Its numbers are the report's, and its status tells all files that failed.
pub record IsKept (asked : Asked) (start now : ShelfNow) (kept : Kept) : Type 0 where
  pub begun : ShelfNow
  pub disk : IsDisk asked start begun (candidate_of kept.summary)
  pub some : IsToldEmpty (disk_as asked (candidate_of kept.summary)) begun.told.files None
  pub between : ShelfNow
  pub read : WroteBehindNotes (disk_as asked (candidate_of kept.summary)) begun between kept.image
      kept.report kept.summary.totals
  pub notes : List Note
  pub draws : DrewAllNoted (disk_as asked (candidate_of kept.summary)) read.looked between now
      kept.picture notes kept.summary.totals
  pub line_is : kept.line ≡ summary_text kept.summary notes
  pub dumps : kept.summary.dumps ≡ length asked.dumps
  pub failed : Bool
  pub shelf : FailedIf failed start now
  pub status : kept.summary.status ≡ status_of failed kept.summary.totals

-- none is asked for, and this dump has no file, before one has a best
abbrev pub LacksAll : Asked → (start now : ShelfNow) → (dump : ℕ) → Type 0
LacksAll asked start now dump =
    (asked.disk ≡ None) × IsFirstLost asked.dumps start now dump

-- or none has a best
abbrev pub LacksDisk : Asked → (start now : ShelfNow) → Type 0
LacksDisk asked start now =
    (asked.disk ≡ None) × HaveNoBest asked.dumps (length asked.dumps) start now

-- the summary's numbers by those of the report
abbrev pub summary_of : Asked → Candidate → (failed : Bool) → DumpTotals → Summary
summary_of asked candidate failed totals = record {
  format = candidate.format;
  stepping = candidate.stepping;
  dumps = length asked.dumps;
  totals = totals;
  status = status_of failed totals;
}

-- a dump has none of the disk's files, or none at all
abbrev pub LacksFiles : Asked → (start now : ShelfNow) → (dump : ℕ) → Type 0
LacksFiles asked start now dump =
    LacksAll asked start now dump
    ⊎ ((begun : ShelfNow) × (candidate : Candidate) × IsDisk asked start begun candidate
    × IsToldEmpty (disk_as asked candidate) start.told.files (Some dump))

-- what is said of a disk that lies in memory, and of one that does not
abbrev pub HasHeld : Asked → (start now : ShelfNow) → HeldDisk → Type 0
HasHeld asked start now held = IsKept asked start now (kept_of held)

abbrev pub IsUnheld : Asked → (start now : ShelfNow) → ArchiveFault → Type 0
IsUnheld asked start now Memory = FailedSome start now
IsUnheld asked start now (NoFiles empty) =
    LacksFiles asked start now empty.dump × FailedSome start now
IsUnheld asked start now NoDisk = LacksDisk asked start now × FailedSome start now
IsUnheld asked start now _ = ⊥

-- whether the folder is there, where it is told
abbrev pub IsThere : Option Made → (folder : List ℕ) → Bool → Type 0
IsThere made folder there =
    (told : Made) → made ≡ Some told → there ≡ has_folder folder told.folders

-- nothing was made, and nothing written
abbrev pub IsUntouched : (made made' : Option Made) → (line line' : Option (List ℕ)) → Type 0
IsUntouched made made' line line' = (made' ≡ made) × (line' ≡ line)

-- all was read, and this was made of it
abbrev pub MakesKept : Asked → (start now : ShelfNow) → (made made' : Option Made)
    → (line line' : Option (List ℕ)) → Kept → Result (Unit {0}) ArchiveFault → Type 0
MakesKept asked start now made made' line line' kept answer =
    IsThere made asked.folder false × IsKept asked start now kept
    × WritesKept asked.folder kept made made' line line' answer

-- What an answer says.
abbrev pub SaysOfArchive : Asked → (start now : ShelfNow) → (made made' : Option Made)
    → (line line' : Option (List ℕ)) → Result Status ArchiveFault → Type 0
SaysOfArchive asked start now made made' line line' (Ok status) =
    (kept : Kept) × MakesKept asked start now made made' line line' kept (Ok tt)
    × (status ≡ kept.summary.status)
SaysOfArchive asked start now made made' line line' (Err Exists) =
    IsThere made asked.folder true × (now ≡ start) × IsUntouched made made' line line'
SaysOfArchive asked start now made made' line line' (Err Memory) =
    IsUntouched made made' line line'
SaysOfArchive asked start now made made' line line' (Err (NoFiles empty)) =
    LacksFiles asked start now empty.dump × IsUntouched made made' line line'
SaysOfArchive asked start now made made' line line' (Err NoDisk) =
    LacksDisk asked start now × IsUntouched made made' line line'
SaysOfArchive asked start now made made' line line' (Err fault) =
    (kept : Kept) × MakesKept asked start now made made' line line' kept (Err fault)

-- the status tells whether files failed
abbrev pub StatusTells : Status → (often : ℕ) → Type 0
StatusTells AllGood often = often ≡ 0
StatusTells NotAllGood often = often ≡ 0
StatusTells ShelfFault often = 0 < often
StatusTells _ often = ⊥

abbrev pub AnswerTells : Result Status ArchiveFault → (often : ℕ) → Type 0
AnswerTells (Ok status) often = StatusTells status often
AnswerTells (Err fault) often = Unit {0}

pub record ShelfDid (start now : ShelfNow) (answer : Result Status ArchiveFault) : Type 0 where
  pub often : ℕ
  pub shelf : FailedOften often start now
  pub tells : AnswerTells answer often

-- The object of which an answer tells a fault: what makes files stands in the place of a source, and
-- the sink of the line in that of an image's.
abbrev pub archive_blame : {A : Type 0} → Result A ArchiveFault → Blame
archive_blame (Err FolderFault) = the_source
archive_blame (Err (FileFault file)) = the_source
archive_blame (Err OutputFault) = the_image
archive_blame _ = no_one
